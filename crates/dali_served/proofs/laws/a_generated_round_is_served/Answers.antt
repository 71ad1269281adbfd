use Rattle.dali_served.proofs.Generated.{generated_are_served}
use Rattle.dali_served.proofs.laws.a_generated_round_is_served.Goals as goal

pub returns : goal.returns
returns c = generated_are_served
