use Rattle.dali_runs.proofs.FlushedImages.{fault_keeps_images}
use Rattle.dali_runs.proofs.laws.a_fault_keeps_the_images.Goals as goal

pub returns : goal.returns
returns c = fault_keeps_images
