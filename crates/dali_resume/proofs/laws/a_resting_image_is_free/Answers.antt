use Rattle.dali_resume.proofs.Freed.{rests_free}
use Rattle.dali_resume.proofs.laws.a_resting_image_is_free.Goals as goal

pub returns : goal.returns
returns c = rests_free
