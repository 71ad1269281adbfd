use Rattle.dali_runs.proofs.FlushedImages.{flush_keeps_images}
use Rattle.dali_runs.proofs.laws.a_flush_keeps_the_images.Goals as goal

pub returns : goal.returns
returns c = flush_keeps_images
