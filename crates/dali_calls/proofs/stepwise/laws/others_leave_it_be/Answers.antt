use Rattle.dali_calls.proofs.StepwiseLemmas.Waiting.{each_leaves, course_leaves, own_apart, led_leaves}
use Rattle.dali_calls.proofs.stepwise.laws.others_leave_it_be.Goals as goal

pub returns-clause-step : goal.returns-clause-step
returns-clause-step c = each_leaves

pub returns-clause-course : goal.returns-clause-course
returns-clause-course c = course_leaves

pub returns-clause-own : goal.returns-clause-own
returns-clause-own c = own_apart

pub returns-clause-led : goal.returns-clause-led
returns-clause-led c = led_leaves
