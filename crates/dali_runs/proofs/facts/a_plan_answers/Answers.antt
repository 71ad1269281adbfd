use Rattle.dali_runs.proofs.FactsLemmas.Plans.{plan_answers}
use Rattle.dali_runs.proofs.facts.a_plan_answers.Goals as goal

pub returns : goal.returns
returns c = plan_answers
