use Rattle.dali_runs.proofs.WholeSteps.{load_is_whole}
use Rattle.dali_runs.proofs.laws.a_load_is_whole.Goals as goal

pub returns : goal.returns
returns c = load_is_whole
