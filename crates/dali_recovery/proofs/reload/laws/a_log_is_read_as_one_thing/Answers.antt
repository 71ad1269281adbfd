use Rattle.dali_recovery.proofs.ReloadLemmas.Whole.{one_reading}
use Rattle.dali_recovery.proofs.reload.laws.a_log_is_read_as_one_thing.Goals as goal

pub returns : goal.returns
returns c = one_reading
