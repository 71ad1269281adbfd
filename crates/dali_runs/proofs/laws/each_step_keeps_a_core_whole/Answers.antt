use Rattle.dali_runs.proofs.WholeSteps.{whole_keeps}
use Rattle.dali_runs.proofs.laws.each_step_keeps_a_core_whole.Goals as goal

pub returns : goal.returns
returns c = whole_keeps
