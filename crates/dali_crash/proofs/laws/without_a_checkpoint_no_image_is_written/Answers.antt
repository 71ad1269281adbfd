use Rattle.dali_crash.proofs.Flags.{idle_leaves_images}
use Rattle.dali_crash.proofs.laws.without_a_checkpoint_no_image_is_written.Goals as goal

pub returns : goal.returns
returns c = idle_leaves_images
