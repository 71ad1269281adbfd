use Rattle.std.proofs.Common.{◌≡◌, length}
use Rattle.dali_disk.specs.State.{in_spans}
use Rattle.dali_disk.proofs.disk.is_in.Given as goal

abbrev pub invariant-loop-rest : goal.invariant-loop-rest
invariant-loop-rest l = in_spans l.rest l.at ≡ in_spans l.spans l.at

abbrev pub decreases-loop-rest : goal.decreases-loop-rest
decreases-loop-rest l = length l.rest
