use Rattle.dali_runs.proofs.Courses.{step_keeps}
use Rattle.dali_runs.proofs.laws.each_step_keeps_a_run.Goals as goal

pub returns : goal.returns
returns c = step_keeps
