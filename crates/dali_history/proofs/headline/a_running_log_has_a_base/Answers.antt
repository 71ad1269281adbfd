use Rattle.dali_history.proofs.HeadlineLemmas.Running.{front_of, running_base_holds}
use Rattle.dali_history.proofs.headline.a_running_log_has_a_base.Goals as goal

pub returns : goal.returns
returns c = record { front = front_of; holds = running_base_holds }
