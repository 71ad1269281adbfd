use Rattle.dali_image.proofs.Passed.{what_passes}
use Rattle.dali_image.proofs.laws.what_passes_is_an_image.Goals as goal

pub returns : goal.returns
returns c = what_passes
