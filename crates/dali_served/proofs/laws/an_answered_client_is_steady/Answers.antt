use Rattle.dali_served.proofs.Steady.{own_is_steady}
use Rattle.dali_served.proofs.laws.an_answered_client_is_steady.Goals as goal

pub returns : goal.returns
returns c = own_is_steady
