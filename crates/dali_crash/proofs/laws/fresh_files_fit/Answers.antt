use Rattle.dali_crash.proofs.Starts.{fresh_fits}
use Rattle.dali_crash.proofs.laws.fresh_files_fit.Goals as goal

pub returns : goal.returns
returns c = fresh_fits
