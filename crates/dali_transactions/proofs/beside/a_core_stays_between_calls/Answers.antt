use Rattle.dali_transactions.proofs.BesideLemmas.Going.{between_each, between_goes}
use Rattle.dali_transactions.proofs.BesideLemmas.Committing.{end_keeps, commit_keeps, failure_keeps}
use Rattle.dali_transactions.proofs.BesideLemmas.Keeping.{begin_keeps, perform_keeps, die_keeps, clean_keeps}
use Rattle.dali_transactions.proofs.beside.a_core_stays_between_calls.Goals as goal

pub returns-clause-each : goal.returns-clause-each
returns-clause-each g c = between_each g.V.Store

pub returns-clause-goes : goal.returns-clause-goes
returns-clause-goes g c = between_goes g.V.Store

pub returns-clause-end : goal.returns-clause-end
returns-clause-end g c = end_keeps g.V.Store

pub returns-clause-commit : goal.returns-clause-commit
returns-clause-commit g c = commit_keeps g.V.Store

pub returns-clause-failure : goal.returns-clause-failure
returns-clause-failure g c = failure_keeps g.V.Store

pub returns-clause-begin : goal.returns-clause-begin
returns-clause-begin g c = begin_keeps g.V.Store

pub returns-clause-perform : goal.returns-clause-perform
returns-clause-perform g c = perform_keeps g.V.Store

pub returns-clause-die : goal.returns-clause-die
returns-clause-die g c = die_keeps g.V.Store

pub returns-clause-clean : goal.returns-clause-clean
returns-clause-clean g c = clean_keeps g.V.Store
