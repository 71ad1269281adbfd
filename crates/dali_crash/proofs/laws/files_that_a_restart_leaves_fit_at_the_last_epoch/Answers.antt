use Rattle.dali_crash.proofs.Rests.{fits_at_last}
use Rattle.dali_crash.proofs.laws.files_that_a_restart_leaves_fit_at_the_last_epoch.Goals as goal

pub returns : goal.returns
returns c = fits_at_last
