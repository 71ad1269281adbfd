use Rattle.dali_runs.proofs.Courses.{course_keeps, bare_course_keeps}
use Rattle.dali_runs.proofs.laws.each_list_of_steps_keeps_a_run.Goals as goal

pub returns : goal.returns
returns c = record { each = course_keeps; bare = bare_course_keeps }
