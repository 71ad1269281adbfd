use Rattle.std.proofs.Common.{◌≡◌, drop}
use Rattle.dali_replay.specs.Marking.{corrupted}
use Rattle.dali_replay.proofs.damage.is_corrupted.Given as goal

abbrev pub invariant-loop-at : goal.invariant-loop-at
invariant-loop-at l = corrupted l.records l.marks l.txn ≡ corrupted (drop l.at l.records) (drop l.at l.marks) l.txn
