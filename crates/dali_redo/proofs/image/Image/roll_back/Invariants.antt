use Rattle.std.proofs.Common.{◌≡◌, ◌≤◌, take, length}
use Rattle.dali_history.specs.Recovered.{roll_back}
use Rattle.dali_redo.proofs.image.Image.roll_back.Given as goal

abbrev pub invariant-loop-left : goal.invariant-loop-left
invariant-loop-left l = (roll_back l.self (take l.left l.undos) ≡ roll_back l.initial.self l.undos) × (l.left ≤ length l.undos)

abbrev pub decreases-loop-left : goal.decreases-loop-left
decreases-loop-left l = l.left
