use Rattle.std.proofs.Common.{◌≡◌, ◌+◌, arith, ap, sym, ◌∙◌}
use Rattle.std.specs.FinMap.{insert}
use Rattle.dali_system.specs.Promised.{Promised, total}
use Rattle.dali_system.specs.Journaled.{Journaled}
use Rattle.dali_system.proofs.Journals.{kept_same, on_err, same_memory, grown_memory}
use Rattle.dali_system.proofs.journal.Journal.promise.Goals as goal

pub invariant_of-self : goal.invariant_of-self
invariant_of-self c = (
  kept_same _ c.self.inside.frame c.make_room.new.frame c.self.inside.count c.self.inside.taken c.self.inside.bytes c.in_err-make_room.ensures.same.0 c.in_err-make_room.ensures.same.1 c.self.invariant.0,
  grown_memory _ _ _ _ c.in_err-make_room.ensures.same.0 c.in_err-make_room.ensures.kept c.self.invariant.1,
)

pub invariant_of-self-2 : goal.invariant_of-self-2
invariant_of-self-2 c =
    let sum : 0 + c.in_ok-all.all ≡ total c.set.new.self = omega (arith, c.in_ok-all.ensures ∙ ap total (sym c.in_ok-set.ensures.ok)) in (
      kept_same _ c.self.inside.frame c.make_room.new.frame c.self.inside.count c.self.inside.taken c.self.inside.bytes c.in_ok-make_room.ensures.same.0 c.in_ok-make_room.ensures.same.1 c.self.invariant.0,
      same_memory _ _ _ _ sum c.in_ok-make_room.ensures.ok,
    )

pub returns-clause-ok : goal.returns-clause-ok
returns-clause-ok c =
    ap (λ (j : Journaled). let m : Journaled = record { since = j.since; taken = j.taken; promised = c.set.new.self } in m) c.self.view_is
    ∙ ap (λ (p : Promised). let m : Journaled = record { since = c.args.self.now.since; taken = c.args.self.now.taken; promised = p } in m) (c.in_ok-set.ensures.ok ∙ ap (λ (j : Journaled). insert j.promised c.args.txn c.args.bytes) c.self.view_is)

pub invariant_of-self-in_err-set : goal.invariant_of-self-in_err-set
invariant_of-self-in_err-set c = (
  kept_same _ c.self.inside.frame c.make_room.new.frame c.self.inside.count c.self.inside.taken c.self.inside.bytes c.in_ok-make_room.ensures.same.0 c.in_ok-make_room.ensures.same.1 c.self.invariant.0,
  same_memory _ _ _ _ (ap total (sym c.in_err-set.ensures.err)) (grown_memory _ _ _ _ c.in_ok-make_room.ensures.same.0 c.in_ok-make_room.ensures.kept c.self.invariant.1),
)

pub returns-in_err-set-clause-err : goal.returns-in_err-set-clause-err
returns-in_err-set-clause-err c = on_err c.from_residual-in_err-set.result _ (
    ap (λ (p : Promised). let m : Journaled = record { since = c.self.inside.since.items; taken = c.self.inside.taken; promised = p } in m) c.in_err-set.ensures.err ∙ c.self.view_is)
