use Rattle.dali_checkpoint.proofs.Calls.{certify_goes_on}
use Rattle.dali_checkpoint.proofs.laws.a_certification_makes_steps.Goals as goal

pub returns : goal.returns
returns g c = certify_goes_on g.V.Store
