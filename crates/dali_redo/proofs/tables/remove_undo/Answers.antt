use Rattle.std.proofs.Common.{sym, subst}
use Rattle.dali_record.specs.declared.records.Record.TheVariants.{Back}
use Rattle.dali_redo.specs.Steps.{Advances, IsCleared}
use Rattle.dali_redo.proofs.Statuses.{removes_one}
use Rattle.dali_redo.proofs.Cleared.{dropped_cleared}
use Rattle.dali_redo.proofs.tables.remove_undo.Goals as goal

pub returns-clause-advances : goal.returns-clause-advances
returns-clause-advances c = subst (λ n. Advances c.args.table.now n (Back c.args.txn c.args.block.now)) (sym c.pop.ensures.rest) (removes_one c.args.table.now c.args.txn c.args.block.now)

pub returns-clause-cleared : goal.returns-clause-cleared
returns-clause-cleared c = subst (λ n. IsCleared c.args.table.now → IsCleared n) (sym c.pop.ensures.rest) (dropped_cleared c.args.table.now c.args.txn)
