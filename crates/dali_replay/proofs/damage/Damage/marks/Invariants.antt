use Rattle.std.proofs.Common.{◌≡◌, length, take}
use Rattle.dali_replay.specs.Seen.{damage_in}
use Rattle.dali_replay.specs.Marking.{marks_only}
use Rattle.dali_replay.proofs.damage.Damage.marks.Given as goal

abbrev pub invariant-loop-at : goal.invariant-loop-at
invariant-loop-at l = (l.marks.items ≡ marks_only (damage_in l.self) (take l.at l.records)) × (length l.marks.items ≡ l.at)
