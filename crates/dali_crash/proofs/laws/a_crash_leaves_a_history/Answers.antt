use Rattle.dali_crash.proofs.Restarts.{crash_is_history}
use Rattle.dali_crash.proofs.laws.a_crash_leaves_a_history.Goals as goal

pub returns : goal.returns
returns c = crash_is_history
