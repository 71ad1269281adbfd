use Rattle.dali_resume.proofs.Numbers.{image_stands_within}
use Rattle.dali_resume.proofs.laws.an_image_stands_before_its_epochs_end.Goals as goal

pub returns : goal.returns
returns c = image_stands_within
