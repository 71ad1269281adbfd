use Rattle.std.proofs.Common.{◌≡◌, ◌++◌, drop}
use Rattle.std.specs.Prelude.{flat_map}
use Rattle.dali_crash.specs.Disks.Disks.{pending_bytes}
use Rattle.dali_image.proofs.table.put_undos.Given as goal

abbrev pub invariant-loop-pending : goal.invariant-loop-pending
invariant-loop-pending l = l.into.items ++ flat_map pending_bytes (drop l.pending-index l.undos) ≡ l.initial.into.items ++ flat_map pending_bytes l.undos
