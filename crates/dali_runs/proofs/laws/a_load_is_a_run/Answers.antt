use Rattle.dali_runs.proofs.Loads.{load_runs}
use Rattle.dali_runs.proofs.laws.a_load_is_a_run.Goals as goal

pub returns : goal.returns
returns c = load_runs
