use Rattle.dali_crash.proofs.Worked.{worked_run}
use Rattle.dali_crash.proofs.laws.a_worked_run.Goals as goal

pub returns : goal.returns
returns c = worked_run
