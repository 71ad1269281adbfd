use Rattle.dali_runs.proofs.FactsLemmas.Undos.{undos_may_be_performed}
use Rattle.dali_runs.proofs.facts.the_undos_of_a_row_may_be_performed.Goals as goal

pub returns : goal.returns
returns c = undos_may_be_performed
