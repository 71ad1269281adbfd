use Rattle.dali_runs.proofs.FactsLemmas.Undos.{undos_may_be_performed}
use Rattle.dali_calls.proofs.single.laws.the_undos_of_a_run_are_covered.Goals as goal

pub returns : goal.returns
returns c = undos_may_be_performed
