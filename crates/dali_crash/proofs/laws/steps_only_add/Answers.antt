use Rattle.dali_crash.proofs.Growth.{course_grows}
use Rattle.dali_crash.proofs.laws.steps_only_add.Goals as goal

pub returns : goal.returns
returns c = course_grows
