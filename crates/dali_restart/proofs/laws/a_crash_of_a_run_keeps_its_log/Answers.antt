use Rattle.dali_restart.proofs.Missed.{crash_is_found_but}
use Rattle.dali_restart.proofs.laws.a_crash_of_a_run_keeps_its_log.Goals as goal

pub returns : goal.returns
returns c = crash_is_found_but
