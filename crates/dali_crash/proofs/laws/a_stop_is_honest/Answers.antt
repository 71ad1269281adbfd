use Rattle.dali_crash.proofs.Honest.{stops_honest}
use Rattle.dali_crash.proofs.laws.a_stop_is_honest.Goals as goal

pub returns : goal.returns
returns c = stops_honest
