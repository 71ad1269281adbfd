use Rattle.dali_crash.proofs.Courses.{course_keeps_the_base}
use Rattle.dali_crash.proofs.laws.steps_keep_the_base.Goals as goal

pub returns : goal.returns
returns c = course_keeps_the_base
