use Rattle.dali_arguments.proofs.InRange.{in_range}
use Rattle.dali_arguments.proofs.laws.meanings_are_in_range.Goals as goal

pub returns : goal.returns
returns c = in_range
