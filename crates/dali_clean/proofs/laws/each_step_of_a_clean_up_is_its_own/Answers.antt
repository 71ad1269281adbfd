use Rattle.dali_clean.proofs.Steps.{own_steps}
use Rattle.dali_clean.proofs.laws.each_step_of_a_clean_up_is_its_own.Goals as goal

pub returns : goal.returns
returns c = own_steps
