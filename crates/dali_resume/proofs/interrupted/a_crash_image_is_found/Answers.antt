use Rattle.dali_resume.proofs.InterruptedLemmas.Found.{crash_is_found}
use Rattle.dali_resume.proofs.interrupted.a_crash_image_is_found.Goals as goal

pub returns : goal.returns
returns c = crash_is_found
