use Rattle.dali_crash.proofs.DisksLemmas.Images.{quiet_is_read}
use Rattle.dali_crash.proofs.disks.laws.the_next_image_is_read_as_the_point_says.Goals as goal

pub returns : goal.returns
returns c = quiet_is_read
