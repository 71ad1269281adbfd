use Rattle.dali_transactions.proofs.BesideLemmas.Runs.{gone_has_ended, ended_since, live_is_uncommitted}
use Rattle.dali_transactions.proofs.beside.a_run_tells_who_is_gone.Goals as goal

pub returns-clause-gone : goal.returns-clause-gone
returns-clause-gone c = gone_has_ended

pub returns-clause-since : goal.returns-clause-since
returns-clause-since c = ended_since

pub returns-clause-uncommitted : goal.returns-clause-uncommitted
returns-clause-uncommitted c = live_is_uncommitted
