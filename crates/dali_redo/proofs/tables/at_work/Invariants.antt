use Rattle.std.proofs.Common.{◌≡◌, take}
use Rattle.std.specs.Prelude.{filter}
use Rattle.dali_resume.specs.Tests.{is_running}
use Rattle.dali_redo.specs.Redoing.{status_at}
use Rattle.dali_redo.proofs.tables.at_work.Given as goal

abbrev pub invariant-loop-txn : goal.invariant-loop-txn
invariant-loop-txn l = l.txns.items ≡ filter (λ t. is_running (status_at l.table t)) (take l.txn-index l.txn-items)
