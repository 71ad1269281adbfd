use Rattle.dali_runs.proofs.QuietSteps.{checkpoint_flag_keeps}
use Rattle.dali_runs.proofs.laws.checkpoint_flag_keeps_a_run.Goals as goal

pub returns : goal.returns
returns c = checkpoint_flag_keeps
