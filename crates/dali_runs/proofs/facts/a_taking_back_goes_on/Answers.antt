use Rattle.dali_runs.proofs.FactsLemmas.Plans.{take_back_goes_on}
use Rattle.dali_runs.proofs.facts.a_taking_back_goes_on.Goals as goal

pub returns : goal.returns
returns c = take_back_goes_on
