use Rattle.dali_calls.proofs.TakingBack.{taking_back_is_step}
use Rattle.dali_calls.proofs.laws.a_taking_back_makes_steps.Goals as goal

pub returns : goal.returns
returns c = taking_back_is_step
