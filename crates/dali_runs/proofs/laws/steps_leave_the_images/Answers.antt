use Rattle.dali_runs.proofs.ImageSteps.{images_keep}
use Rattle.dali_runs.proofs.laws.steps_leave_the_images.Goals as goal

pub returns : goal.returns
returns c = images_keep
