use Rattle.std.proofs.Common.{◌≡◌, ◌++◌, drop}
use Rattle.dali_record.specs.Legal.{dead_of}
use Rattle.dali_system.proofs.undos.removals.Given as goal

abbrev pub invariant-loop-pending : goal.invariant-loop-pending
invariant-loop-pending l = l.removed.items ++ dead_of (drop l.pending-index l.undos) ≡ dead_of l.undos
