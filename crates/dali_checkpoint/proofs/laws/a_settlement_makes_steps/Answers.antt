use Rattle.dali_checkpoint.proofs.Calls.{settle_goes_on}
use Rattle.dali_checkpoint.proofs.laws.a_settlement_makes_steps.Goals as goal

pub returns : goal.returns
returns g c = settle_goes_on g.V.Store
