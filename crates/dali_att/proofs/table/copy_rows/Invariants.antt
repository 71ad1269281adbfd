use Rattle.std.proofs.Common.{◌≡◌, ◌++◌}
use Rattle.dali_att.proofs.table.copy_rows.Given as goal

-- the copy so far, and the rows that are left
abbrev pub invariant-loop-txn : goal.invariant-loop-txn
invariant-loop-txn g l = l.copy.entries ++ l.txn-iterator ≡ l.rows.entries
