use Rattle.dali_runs.proofs.FactsLemmas.KeysAndUndos.{has_counts}
use Rattle.dali_runs.proofs.facts.a_run_has_its_counts.Goals as goal

pub returns : goal.returns
returns c = has_counts
