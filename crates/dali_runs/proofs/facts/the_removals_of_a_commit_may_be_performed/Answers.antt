use Rattle.dali_runs.proofs.FactsLemmas.Undos.{removals_may_be_performed}
use Rattle.dali_runs.proofs.facts.the_removals_of_a_commit_may_be_performed.Goals as goal

pub returns : goal.returns
returns c = removals_may_be_performed
