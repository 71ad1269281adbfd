use Rattle.std.proofs.Common.{◌≡◌, ◌+◌, ℕ, length}
use Rattle.std.specs.FinMap.{len}
use Rattle.dali_redo.specs.Redoing.{AreUndos, performed_in}
use Rattle.dali_redo.proofs.Rolls.{IsSoFar}
use Rattle.dali_redo.proofs.redo.perform.Given as goal

abbrev pub invariant-loop-txn : goal.invariant-loop-txn
invariant-loop-txn l = record {
  so_far : IsSoFar l.initial.left l.initial.table l.initial.image l.left l.table l.image;
  undos : (t : ℕ) → AreUndos (performed_in l.left l.table t);
  regions : length l.image ≡ length l.initial.image;
}

abbrev pub decreases-loop-txn : goal.decreases-loop-txn
decreases-loop-txn l = len l.table + len l.left
