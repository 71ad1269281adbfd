use Rattle.dali_crash.proofs.Traces.{fresh_rests}
use Rattle.dali_crash.proofs.laws.a_fresh_store_is_at_rest.Goals as goal

pub returns : goal.returns
returns c = fresh_rests
