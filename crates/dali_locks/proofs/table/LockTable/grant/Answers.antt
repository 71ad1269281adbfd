use Rattle.std.proofs.Common.{◌∙◌, ap, refl}
use Rattle.std.specs.FinMap.{insert}
use Rattle.std.proofs.lemmas.Result.{on_ok_weaker, on_err_weaker}
use Rattle.dali_locks.specs.Locks.{stronger_mode}
use Rattle.dali_locks.specs.Pairs.{IsKept}
use Rattle.dali_locks.proofs.Kept.{has, same_kept, same_made, put_kept, put_made, apart_from}
use Rattle.dali_locks.proofs.Outcomes.{on_either}
use Rattle.dali_locks.proofs.table.LockTable.grant.Goals as goal

pub invariant_of-self : goal.invariant_of-self
invariant_of-self c =
    let held = c.self.inside.held.entries in
    let holders = c.self.inside.holders.entries in
    on_either c.put.result c.put.ensures.ok c.put.ensures.err
    (λ p. put_kept held c.put.new.held.entries holders c.put.new.holders.entries c.args.self.now c.args.txn c.args.key c.args.mode c.or_held-mode.result c.self.view_is c.self.invariant c.requires
    (c.or_held-mode.ensures ∙ ap (λ o. stronger_mode o c.args.mode) c.holds.ensures.mode) p.0 p.1)
    (λ p. same_kept held holders c.put.new.held.entries c.put.new.holders.entries c.self.invariant p.0 p.1)

pub returns-clause-ok : goal.returns-clause-ok
returns-clause-ok c =
    on_ok_weaker c.put.result (λ p.
    put_made c.self.inside.held.entries c.put.new.held.entries c.args.self.now c.args.txn c.args.key c.or_held-mode.result c.self.view_is p.0
    ∙ ap (insert c.args.self.now (c.args.txn, c.args.key)) (c.or_held-mode.ensures ∙ ap (λ o. stronger_mode o c.args.mode) c.holds.ensures.mode)) c.put.ensures.ok

pub returns-clause-err : goal.returns-clause-err
returns-clause-err c = on_err_weaker c.put.result (λ p. same_made c.self.inside.held.entries c.put.new.held.entries p.0 c.args.self.now c.self.view_is) c.put.ensures.err

pub returns-clause-absent : goal.returns-clause-absent
returns-clause-absent c = on_err_weaker c.put.result (λ none. has c.self.inside.held.entries c.args.self.now c.self.view_is c.args.txn c.args.key ∙ none) c.put.ensures.absent

pub returns-clause-apart : goal.returns-clause-apart
returns-clause-apart c = apart_from c.put.new.held.entries _ refl (let kept : IsKept c.put.new.held.entries c.put.new.holders.entries = invariant_of-self c in kept.apart)
