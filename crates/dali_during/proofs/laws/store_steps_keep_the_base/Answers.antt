use Rattle.dali_during.proofs.Points.{point_course_keeps_the_base}
use Rattle.dali_during.proofs.laws.store_steps_keep_the_base.Goals as goal

pub returns : goal.returns
returns c = point_course_keeps_the_base
