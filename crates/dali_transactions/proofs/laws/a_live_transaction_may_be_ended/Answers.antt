use Rattle.dali_transactions.proofs.Standing.{up_may_end}
use Rattle.dali_transactions.proofs.laws.a_live_transaction_may_be_ended.Goals as goal

pub returns : goal.returns
returns g c = up_may_end g.V.Store
