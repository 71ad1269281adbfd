use Rattle.dali_core.proofs.StepsLemmas.Courses.{quiet_course}
use Rattle.dali_core.proofs.steps.laws.a_course_that_calls_no_store_leaves_the_vault.Goals as goal

pub returns : goal.returns
returns g c = quiet_course g.V.Store
