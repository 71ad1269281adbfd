use Rattle.std.proofs.Common.{◌≡◌, ◌++◌, drop, length}
use Rattle.std.specs.Prelude.{flat_map, map}
use Rattle.dali_bytes.specs.Fields.{number32}
use Rattle.dali_crash.specs.Disks.Disks.{row_bytes}
use Rattle.dali_image.specs.Rows.{row_at}
use Rattle.dali_image.proofs.table.table_bytes.Given as goal

abbrev pub invariant-loop-txn : goal.invariant-loop-txn
invariant-loop-txn l = l.bytes.items ++ flat_map row_bytes (map (row_at l.att) (drop l.txn-index l.txn-items)) ≡ number32 (length l.txn-items) ++ flat_map row_bytes (map (row_at l.att) l.txn-items)
