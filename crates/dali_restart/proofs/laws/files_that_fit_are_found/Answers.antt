use Rattle.dali_restart.proofs.ByHand.{fit_is_found}
use Rattle.dali_restart.proofs.laws.files_that_fit_are_found.Goals as goal

pub returns : goal.returns
returns c = fit_is_found
