use Rattle.dali_transactions.proofs.Durable.{commit_is_right}
use Rattle.dali_transactions.proofs.laws.a_crash_inside_a_commit_is_right.Goals as goal

pub returns : goal.returns
returns g c = commit_is_right g.V.Store
