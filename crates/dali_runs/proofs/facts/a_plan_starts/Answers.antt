use Rattle.dali_runs.proofs.FactsLemmas.Plans.{plan_starts}
use Rattle.dali_runs.proofs.facts.a_plan_starts.Goals as goal

pub returns : goal.returns
returns c = plan_starts
