use Rattle.dali_generator.proofs.Right.{right_round, right_sizes}
use Rattle.dali_generator.proofs.laws.generated_rounds_are_right.Goals as goal

pub returns : goal.returns
returns c = record { round = right_round; sizes = right_sizes }
