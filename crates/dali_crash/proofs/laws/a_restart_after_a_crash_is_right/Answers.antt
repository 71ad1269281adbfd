use Rattle.dali_crash.proofs.Restarts.{crash_is_right}
use Rattle.dali_crash.proofs.laws.a_restart_after_a_crash_is_right.Goals as goal

pub returns : goal.returns
returns c = crash_is_right
