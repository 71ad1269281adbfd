use Rattle.dali_restart.proofs.RiseLemmas.Behind.{rests_behind}
use Rattle.dali_restart.proofs.rise.laws.a_renewed_log_is_at_rest.Goals as goal

pub returns : goal.returns
returns c = rests_behind
