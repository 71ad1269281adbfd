use Rattle.dali_calls.proofs.StepwiseLemmas.Waiting.{plan_waits, call_waits, rest_waits}
use Rattle.dali_calls.proofs.stepwise.laws.a_plan_waits.Goals as goal

pub returns-clause-plan : goal.returns-clause-plan
returns-clause-plan c = plan_waits

pub returns-clause-call : goal.returns-clause-call
returns-clause-call c = call_waits

pub returns-clause-rest : goal.returns-clause-rest
returns-clause-rest c = rest_waits
