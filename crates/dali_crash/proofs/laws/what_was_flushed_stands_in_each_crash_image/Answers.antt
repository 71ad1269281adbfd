use Rattle.dali_crash.proofs.Restarts.{flushed_stays_in}
use Rattle.dali_crash.proofs.laws.what_was_flushed_stands_in_each_crash_image.Goals as goal

pub returns : goal.returns
returns c = flushed_stays_in
