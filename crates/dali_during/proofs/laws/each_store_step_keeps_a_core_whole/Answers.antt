use Rattle.dali_during.proofs.Points.{point_whole_keeps, point_whole_course_keeps}
use Rattle.dali_during.proofs.laws.each_store_step_keeps_a_core_whole.Goals as goal

pub returns : goal.returns
returns c = record { step = point_whole_keeps; course = point_whole_course_keeps }
