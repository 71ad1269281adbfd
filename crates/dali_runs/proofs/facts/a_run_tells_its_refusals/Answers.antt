use Rattle.dali_runs.proofs.FactsLemmas.Told.{refusals_tell}
use Rattle.dali_runs.proofs.facts.a_run_tells_its_refusals.Goals as goal

pub returns : goal.returns
returns c = refusals_tell
