use Rattle.dali_runs.proofs.QuietSteps.{region_keeps}
use Rattle.dali_runs.proofs.laws.region_keeps_a_run.Goals as goal

pub returns : goal.returns
returns c = region_keeps
