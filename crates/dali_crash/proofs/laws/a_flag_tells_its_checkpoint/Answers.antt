use Rattle.dali_crash.proofs.Flags.{course_flag_tells}
use Rattle.dali_crash.proofs.laws.a_flag_tells_its_checkpoint.Goals as goal

pub returns : goal.returns
returns c = course_flag_tells
