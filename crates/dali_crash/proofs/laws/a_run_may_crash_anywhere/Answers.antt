use Rattle.dali_crash.proofs.Restarts.{run_is_right}
use Rattle.dali_crash.proofs.laws.a_run_may_crash_anywhere.Goals as goal

pub returns : goal.returns
returns c = run_is_right
