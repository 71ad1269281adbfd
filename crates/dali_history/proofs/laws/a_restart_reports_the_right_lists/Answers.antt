use Rattle.dali_history.proofs.Reported.{deleted_list_is, rolled_list_is}
use Rattle.dali_history.proofs.Ascending.{deleted_list_ascends, rolled_list_ascends}
use Rattle.dali_history.proofs.SpelledRestart.{restarted_is_spelled}
use Rattle.dali_history.proofs.laws.a_restart_reports_the_right_lists.Goals as goal

pub returns : goal.returns
returns c = record { deleted = deleted_list_is; rolled = rolled_list_is; deleted_ascends = deleted_list_ascends; rolled_ascends = rolled_list_ascends; spelled = restarted_is_spelled }
