use Rattle.dali_transactions.proofs.Freeing.{up_may_free}
use Rattle.dali_transactions.proofs.laws.a_removal_that_is_left_may_be_freed.Goals as goal

pub returns : goal.returns
returns g c = up_may_free g.V.Store
