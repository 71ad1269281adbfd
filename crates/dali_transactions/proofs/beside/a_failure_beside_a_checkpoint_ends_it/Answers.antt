use Rattle.dali_transactions.proofs.BesideLemmas.GivingUp.{flush_ends, commit_ends}
use Rattle.dali_transactions.proofs.beside.a_failure_beside_a_checkpoint_ends_it.Goals as goal

pub returns-clause-flush : goal.returns-clause-flush
returns-clause-flush g c = flush_ends g.V.Store

pub returns-clause-commit : goal.returns-clause-commit
returns-clause-commit g c = commit_ends g.V.Store
