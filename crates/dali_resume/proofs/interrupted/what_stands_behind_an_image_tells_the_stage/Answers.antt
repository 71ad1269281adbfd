use Rattle.dali_resume.proofs.InterruptedLemmas.Telling.{tells_stage}
use Rattle.dali_resume.proofs.interrupted.what_stands_behind_an_image_tells_the_stage.Goals as goal

pub returns : goal.returns
returns c = tells_stage
