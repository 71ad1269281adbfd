use Rattle.dali_runs.proofs.FactsLemmas.Plans.{plan_goes_on}
use Rattle.dali_runs.proofs.facts.a_plan_goes_on.Goals as goal

pub returns : goal.returns
returns c = plan_goes_on
