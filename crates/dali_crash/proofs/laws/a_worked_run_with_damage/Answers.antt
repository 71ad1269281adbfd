use Rattle.dali_crash.proofs.Damaged.{damaged_run}
use Rattle.dali_crash.proofs.laws.a_worked_run_with_damage.Goals as goal

pub returns : goal.returns
returns c = damaged_run
