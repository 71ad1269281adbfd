use Rattle.dali_runs.proofs.FactsLemmas.KeysAndUndos.{holds_its_keys}
use Rattle.dali_runs.proofs.facts.a_run_holds_its_keys.Goals as goal

pub returns : goal.returns
returns c = holds_its_keys
