use Rattle.dali_concurrent.proofs.Stored.{hands_out}
use Rattle.dali_concurrent.proofs.laws.a_closed_round_hands_out_its_core.Goals as goal

pub returns : goal.returns
returns g c = hands_out g.V.Store
