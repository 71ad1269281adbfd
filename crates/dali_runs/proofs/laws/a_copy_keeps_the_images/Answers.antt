use Rattle.dali_runs.proofs.ImageSteps.{copy_keeps}
use Rattle.dali_runs.proofs.laws.a_copy_keeps_the_images.Goals as goal

pub returns : goal.returns
returns c = copy_keeps
