use Rattle.dali_during.proofs.UnpokedCourses.{unpoked_point_courses, unpoked_traces}
use Rattle.dali_during.proofs.laws.without_stray_writes_a_run_with_its_store_is_as_expected.Goals as goal

pub returns : goal.returns
returns c = record { course = unpoked_point_courses; image = unpoked_traces }
