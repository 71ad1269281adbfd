use Rattle.dali_resume.proofs.Numbers.{number_is_some}
use Rattle.dali_resume.proofs.laws.an_image_stands_behind_a_record.Goals as goal

pub returns : goal.returns
returns c = number_is_some
