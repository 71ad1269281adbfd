use Rattle.dali_crash.proofs.StoreRuns.{store_course_keeps, bare_store_course_keeps}
use Rattle.dali_crash.proofs.laws.each_list_of_store_steps_keeps_a_run.Goals as goal

pub returns : goal.returns
returns c = record { each = store_course_keeps; bare = bare_store_course_keeps }
