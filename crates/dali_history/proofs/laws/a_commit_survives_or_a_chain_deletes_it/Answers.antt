use Rattle.dali_history.proofs.Chained.{keeps_committed}
use Rattle.dali_history.proofs.laws.a_commit_survives_or_a_chain_deletes_it.Goals as goal

pub returns : goal.returns
returns c = keeps_committed
