use Rattle.std.proofs.Common.{ap, sym, subst, ◌∙◌, take, IsSome}
use Rattle.std.specs.FinMap.{get}
use Rattle.dali_lists.proofs.Options.{on_err_any}
use Rattle.dali_redo.proofs.Copies.{others_stay, apart, stays_there, added_more}
use Rattle.dali_redo.proofs.tables.add_all.Goals as goal

pub returns-in_err-push-clause-err : goal.returns-in_err-push-clause-err
returns-in_err-push-clause-err c = on_err_any c.from_residual.result (λ t h. ap (λ m. get m t) (c.in_err-push.ensures.err ∙ c.loop-undo.invariant.added) ∙ others_stay (take c.loop-undo.undo-index c.args.undos.now) c.args.table.now c.args.txn t (apart c.args.txn t h))

pub loop-undo-preserved : goal.loop-undo-preserved
loop-undo-preserved c = record {
  added = added_more c.args.table.now c.loop-undo.table c.push.new.self c.args.txn c.args.undos.now c.loop-undo.undo-index _ c.loop-undo-test.true c.loop-undo.invariant.added c.in_ok-push.ensures.ok;
  there = subst (λ m. IsSome (get m c.args.txn)) (sym c.in_ok-push.ensures.ok) (stays_there c.loop-undo.table c.args.txn _ c.loop-undo.invariant.there);
}
