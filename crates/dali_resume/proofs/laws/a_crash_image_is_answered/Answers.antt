use Rattle.dali_resume.proofs.Stopped.{crash_is_answered}
use Rattle.dali_resume.proofs.laws.a_crash_image_is_answered.Goals as goal

pub returns : goal.returns
returns c = crash_is_answered
