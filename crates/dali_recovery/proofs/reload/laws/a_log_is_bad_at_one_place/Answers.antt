use Rattle.dali_recovery.proofs.ReloadLemmas.OnePlace.{one_bad_place}
use Rattle.dali_recovery.proofs.reload.laws.a_log_is_bad_at_one_place.Goals as goal

pub returns : goal.returns
returns c = one_bad_place
