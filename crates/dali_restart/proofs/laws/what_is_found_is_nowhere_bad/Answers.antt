use Rattle.dali_restart.proofs.Telling.{found_good}
use Rattle.dali_restart.proofs.laws.what_is_found_is_nowhere_bad.Goals as goal

pub returns : goal.returns
returns c = found_good
