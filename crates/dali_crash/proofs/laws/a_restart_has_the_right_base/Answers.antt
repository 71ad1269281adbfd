use Rattle.dali_crash.proofs.Restarts.{restart_has_right_base}
use Rattle.dali_crash.proofs.laws.a_restart_has_the_right_base.Goals as goal

pub returns : goal.returns
returns c = restart_has_right_base
