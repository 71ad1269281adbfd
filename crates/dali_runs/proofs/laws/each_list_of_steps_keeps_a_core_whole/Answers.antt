use Rattle.dali_runs.proofs.WholeSteps.{whole_course_keeps}
use Rattle.dali_runs.proofs.laws.each_list_of_steps_keeps_a_core_whole.Goals as goal

pub returns : goal.returns
returns c = whole_course_keeps
