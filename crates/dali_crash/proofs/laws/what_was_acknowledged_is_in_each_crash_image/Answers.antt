use Rattle.dali_crash.proofs.Restarts.{acknowledged_stays}
use Rattle.dali_crash.proofs.laws.what_was_acknowledged_is_in_each_crash_image.Goals as goal

pub returns : goal.returns
returns c = acknowledged_stays
