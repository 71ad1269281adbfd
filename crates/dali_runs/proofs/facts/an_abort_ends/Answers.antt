use Rattle.dali_runs.proofs.FactsLemmas.Ends.{empty_ends}
use Rattle.dali_runs.proofs.facts.an_abort_ends.Goals as goal

pub returns : goal.returns
returns c = empty_ends
