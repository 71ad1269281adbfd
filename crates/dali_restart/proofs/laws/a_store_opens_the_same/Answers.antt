use Rattle.dali_restart.proofs.Once.{opens_once}
use Rattle.dali_restart.proofs.laws.a_store_opens_the_same.Goals as goal

pub returns : goal.returns
returns c = opens_once
