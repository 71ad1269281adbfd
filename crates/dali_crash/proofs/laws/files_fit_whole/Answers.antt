use Rattle.dali_crash.proofs.Fitting.{but_is_whole}
use Rattle.dali_crash.proofs.laws.files_fit_whole.Goals as goal

pub returns : goal.returns
returns c = but_is_whole
