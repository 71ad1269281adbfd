use Rattle.dali_crash.proofs.FromImage.{recovers_from_image}
use Rattle.dali_crash.proofs.laws.a_restart_may_begin_with_the_image.Goals as goal

pub returns : goal.returns
returns c = recovers_from_image
