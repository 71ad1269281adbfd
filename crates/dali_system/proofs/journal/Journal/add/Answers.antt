use Rattle.std.proofs.Common.{◌≡◌, false, true, sym, subst, length, arith, ap, ◌∙◌, ◌+◌}
use Rattle.dali_record.specs.Spelling.{spelling}
use Rattle.dali_log.specs.Entries.{record_of}
use Rattle.dali_system.specs.Journaled.{Journaled}
use Rattle.dali_system.specs.Promised.{Covers, behind, total}
use Rattle.dali_system.proofs.Totals.{covered}
use Rattle.dali_system.proofs.Journals.{small_of, kept_same, kept_push, view_push, few, same_memory, less_memory, grown_memory}
use Rattle.dali_system.proofs.journal.Journal.add.Goals as goal

pub invariant_of-self : goal.invariant_of-self
invariant_of-self c = (
  kept_same _ c.self.inside.frame c.write.new.frame c.self.inside.count c.self.inside.taken c.self.inside.bytes c.in_err-self-inside.ensures.err.0 c.in_err-self-inside.ensures.err.1 c.self.invariant.0,
  grown_memory _ _ _ _ c.in_err-self-inside.ensures.err.0 c.in_err-self-inside.ensures.err.2 c.self.invariant.1,
)

pub returns-in_err-self-inside-clause-small : goal.returns-in_err-self-inside-clause-small
returns-in_err-self-inside-clause-small c = small_of _ c.write.new.frame c.self.inside.count c.self.inside.taken c.self.inside.bytes c.self.inside.promises (invariant_of-self c).0

pub overflow_add-self : goal.overflow_add-self
overflow_add-self c = omega (arith, c.self.invariant.0.counts, c.self.invariant.0.weighs, c.self.invariant.0.small, few c.self.inside.since.items)

pub invariant_of-self-2 : goal.invariant_of-self-2
invariant_of-self-2 c = (
  kept_push c.self.inside.since.items c.and-self-inside.result.items (record_of c.args.given) c.self.inside.frame c.write.new.frame c.self.inside.count c.self.inside.taken c.self.inside.bytes c.in_ok-self-inside.field-0
      c.and-self-inside.ensures c.in_ok-self-inside.ensures.body c.in_ok-self-inside.ensures.records c.in_ok-self-inside.ensures.all.0 (omega (arith, c.in_ok-self-inside.ensures.all.1.small)) c.self.invariant.0,
  same_memory _ _ _ _ (c.all_behind-promised.ensures ∙ ap total (sym c.use_up.ensures)) c.in_ok-self-inside.ensures.all.1,
)

pub returns-clause-ok : goal.returns-clause-ok
returns-clause-ok c =
    view_push c.and-self-inside.result.items (record_of c.args.given) c.self.inside.taken c.self.inside.promises _ c.use_up.new.self c.args.self.now c.self.inside.since.items c.and-self-inside.ensures
    (c.use_up.ensures ∙ ap (λ (j : Journaled). behind j.promised c.args.uses) c.self.view_is) c.self.view_is

pub returns-clause-small : goal.returns-clause-small
returns-clause-small c = small_of _ c.write.new.frame (c.self.inside.count + 1) c.self.inside.taken _ _ (invariant_of-self-2 c).0

pub returns-in_err-self-inside-clause-enough : goal.returns-in_err-self-inside-clause-enough
returns-in_err-self-inside-clause-enough c covers =
    let now : Covers c.self.inside.promises c.args.uses (length (spelling (record_of c.args.given))) = subst (λ (j : Journaled). Covers j.promised c.args.uses (length (spelling (record_of c.args.given)))) (sym c.self.view_is) covers in
    let no : false ≡ true = c.in_err-self-inside.ensures.room (less_memory _ _ _ _ (omega (arith, c.all_behind-promised.ensures, covered c.self.inside.promises c.args.uses (length (spelling (record_of c.args.given))) now)) c.self.invariant.1) in absurd cc
