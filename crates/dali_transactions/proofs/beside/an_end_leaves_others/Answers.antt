use Rattle.dali_transactions.proofs.BesideLemmas.Committing.{backs_go, commit_leaves, failure_leaves}
use Rattle.dali_transactions.proofs.beside.an_end_leaves_others.Goals as goal

pub returns-clause-end : goal.returns-clause-end
returns-clause-end g c = backs_go g.V.Store

pub returns-clause-commit : goal.returns-clause-commit
returns-clause-commit g c = commit_leaves g.V.Store

pub returns-clause-failure : goal.returns-clause-failure
returns-clause-failure g c = failure_leaves g.V.Store
