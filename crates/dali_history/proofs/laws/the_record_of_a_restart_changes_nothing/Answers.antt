use Rattle.dali_history.proofs.Restarts.{IsHistory-restarted, survivors-restarted, expected-restarted, recovered-same}
use Rattle.dali_history.proofs.laws.the_record_of_a_restart_changes_nothing.Goals as goal

pub returns : goal.returns
returns c = record { history = IsHistory-restarted; survivors = survivors-restarted; expected = expected-restarted; image = recovered-same }
