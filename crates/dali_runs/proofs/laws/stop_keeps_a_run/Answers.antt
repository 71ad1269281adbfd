use Rattle.dali_runs.proofs.QuietSteps.{stop_keeps}
use Rattle.dali_runs.proofs.laws.stop_keeps_a_run.Goals as goal

pub returns : goal.returns
returns c = stop_keeps
