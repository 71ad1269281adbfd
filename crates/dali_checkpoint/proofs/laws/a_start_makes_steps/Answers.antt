use Rattle.dali_checkpoint.proofs.Calls.{start_goes}
use Rattle.dali_checkpoint.proofs.laws.a_start_makes_steps.Goals as goal

pub returns : goal.returns
returns g c = start_goes g.V.Store
