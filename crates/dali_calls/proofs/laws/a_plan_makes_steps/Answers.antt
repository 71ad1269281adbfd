use Rattle.dali_calls.proofs.Stepping.{onward_is_step, back_is_step, done_is_step}
use Rattle.dali_calls.proofs.laws.a_plan_makes_steps.Goals as goal

pub returns-clause-onward : goal.returns-clause-onward
returns-clause-onward c = onward_is_step

pub returns-clause-back : goal.returns-clause-back
returns-clause-back c = back_is_step

pub returns-clause-done : goal.returns-clause-done
returns-clause-done c = done_is_step
