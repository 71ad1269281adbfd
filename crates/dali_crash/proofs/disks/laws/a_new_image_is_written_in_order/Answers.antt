use Rattle.dali_crash.proofs.DisksLemmas.Ordered.{ordered_is_read}
use Rattle.dali_crash.proofs.disks.laws.a_new_image_is_written_in_order.Goals as goal

pub returns : goal.returns
returns c = ordered_is_read
