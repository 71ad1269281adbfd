use Rattle.dali_runs.proofs.FactsLemmas.Told.{stop_tells}
use Rattle.dali_runs.proofs.facts.a_run_tells_its_stop.Goals as goal

pub returns : goal.returns
returns c = stop_tells
