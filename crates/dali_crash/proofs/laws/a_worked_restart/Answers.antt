use Rattle.dali_crash.proofs.Restarted.{worked_restart}
use Rattle.dali_crash.proofs.laws.a_worked_restart.Goals as goal

pub returns : goal.returns
returns c = worked_restart
