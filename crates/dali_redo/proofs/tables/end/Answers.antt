use Rattle.std.proofs.Common.{sym, subst}
use Rattle.dali_record.specs.declared.records.Record.TheVariants.{Ended}
use Rattle.dali_redo.specs.Steps.{Advances, IsCleared}
use Rattle.dali_redo.proofs.Statuses.{ends_one}
use Rattle.dali_redo.proofs.Cleared.{ended_cleared}
use Rattle.dali_redo.proofs.tables.end.Goals as goal

pub returns-clause-advances : goal.returns-clause-advances
returns-clause-advances c = subst (λ n. Advances c.args.table.now n (Ended c.args.txn)) (sym c.end.ensures) (ends_one c.args.table.now c.args.txn)

pub returns-clause-cleared : goal.returns-clause-cleared
returns-clause-cleared c = subst (λ n. IsCleared c.args.table.now → IsCleared n) (sym c.end.ensures) (ended_cleared c.args.table.now c.args.txn)
