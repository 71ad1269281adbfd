use Rattle.dali_crash.proofs.DisksLemmas.Places.{image_is_read, write_is_read}
use Rattle.dali_crash.proofs.DisksLemmas.Images.{head_is_read}
use Rattle.dali_crash.proofs.disks.laws.images_are_read_by_places.Goals as goal

pub returns : goal.returns
returns c = record { image = image_is_read; write = write_is_read; head = head_is_read }
