use Rattle.dali_calls.proofs.StepwiseLemmas.Turning.{plan_turns, turned_ends}
use Rattle.dali_calls.proofs.stepwise.laws.a_refused_plan_goes_back.Goals as goal

pub returns-clause-turns : goal.returns-clause-turns
returns-clause-turns c = plan_turns

pub returns-clause-ends : goal.returns-clause-ends
returns-clause-ends c = turned_ends
