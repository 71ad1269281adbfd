use Rattle.dali_runs.proofs.FactsLemmas.KeysAndUndos.{has_its_undos}
use Rattle.dali_runs.proofs.facts.a_run_has_its_undos.Goals as goal

pub returns : goal.returns
returns c = has_its_undos
