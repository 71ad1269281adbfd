use Rattle.dali_runs.proofs.QuietSteps.{state_keeps}
use Rattle.dali_runs.proofs.laws.state_keeps_a_run.Goals as goal

pub returns : goal.returns
returns c = state_keeps
