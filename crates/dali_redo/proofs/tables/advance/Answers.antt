use Rattle.std.proofs.Common.{sym, subst}
use Rattle.dali_record.specs.declared.records.Record.TheVariants.{Restarted}
use Rattle.dali_redo.specs.Steps.{Advances, IsCleared}
use Rattle.dali_redo.proofs.Statuses.{restarts}
use Rattle.dali_redo.proofs.Cleared.{empty_cleared}
use Rattle.dali_redo.proofs.tables.advance.Goals as goal

pub returns-in-Restarted-clause-ok : goal.returns-in-Restarted-clause-ok
returns-in-Restarted-clause-ok c = subst (λ r. Advances c.args.table.now c.new.result r) (sym c.in-Restarted.is) (subst (λ n. Advances c.args.table.now n (Restarted c.in-Restarted.rolled_back c.in-Restarted.deleted)) (sym c.new.ensures) (restarts c.args.table.now c.in-Restarted.rolled_back c.in-Restarted.deleted))

pub returns-in-Restarted-clause-cleared : goal.returns-in-Restarted-clause-cleared
returns-in-Restarted-clause-cleared c = subst (λ n. IsCleared c.args.table.now → IsCleared n) (sym c.new.ensures) (λ h. empty_cleared)
