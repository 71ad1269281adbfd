use Rattle.dali_calls.proofs.SingleLemmas.Standing.{own_step_stands, own_steps_stand}
use Rattle.dali_calls.proofs.single.laws.others_are_left_alone.Goals as goal

pub returns : goal.returns
returns c = record { step = own_step_stands; steps = own_steps_stand }
