use Rattle.dali_runs.proofs.FactsLemmas.Told.{regions_tell}
use Rattle.dali_runs.proofs.facts.a_run_tells_its_words.Goals as goal

pub returns : goal.returns
returns c = regions_tell
