use Rattle.dali_runs.proofs.FactsLemmas.States.{states_come_from}
use Rattle.dali_runs.proofs.facts.states_come_from_states.Goals as goal

pub returns : goal.returns
returns c = states_come_from
