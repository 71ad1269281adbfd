use Rattle.dali_runs.proofs.Loads.{empty_rests}
use Rattle.dali_runs.proofs.laws.a_log_with_an_empty_epoch_rests.Goals as goal

pub returns : goal.returns
returns c = empty_rests
