use Rattle.std.proofs.Common.{sym, subst, ◌∙◌}
use Rattle.std.proofs.lemmas.Result.{on_ok_weaker}
use Rattle.dali_record.specs.declared.records.Record.TheVariants.{Begin}
use Rattle.dali_redo.specs.Steps.{Advances, IsCleared}
use Rattle.dali_redo.proofs.Statuses.{begins_new}
use Rattle.dali_redo.proofs.Cleared.{begun_cleared}
use Rattle.dali_redo.proofs.tables.begin.Goals as goal

pub returns-in-None-clause-ok : goal.returns-in-None-clause-ok
returns-in-None-clause-ok c = on_ok_weaker c.begin.result (λ e. subst (λ n. Advances c.args.table.now n (Begin c.args.txn)) (sym e) (begins_new c.args.table.now c.args.txn (sym c.state.ensures ∙ c.in-None.is))) c.begin.ensures.ok

pub returns-in-None-clause-cleared : goal.returns-in-None-clause-cleared
returns-in-None-clause-cleared c = on_ok_weaker c.begin.result (λ e. subst (λ n. IsCleared c.args.table.now → IsCleared n) (sym e) (begun_cleared c.args.table.now c.args.txn)) c.begin.ensures.ok
