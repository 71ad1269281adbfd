use Rattle.dali_restart.proofs.ByHand.{closed_format_is_found}
use Rattle.dali_restart.proofs.laws.a_log_of_a_format_and_a_restart_is_found.Goals as goal

pub returns : goal.returns
returns c = closed_format_is_found
