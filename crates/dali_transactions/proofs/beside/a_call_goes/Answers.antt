use Rattle.dali_transactions.proofs.BesideLemmas.Calls.{begin_goes, ask_goes, operate_goes, die_goes, answer_goes, perform_goes}
use Rattle.dali_transactions.proofs.beside.a_call_goes.Goals as goal

pub returns-clause-begin : goal.returns-clause-begin
returns-clause-begin g c = begin_goes g.V.Store

pub returns-clause-ask : goal.returns-clause-ask
returns-clause-ask g c = ask_goes g.V.Store

pub returns-clause-operate : goal.returns-clause-operate
returns-clause-operate g c = operate_goes g.V.Store

pub returns-clause-die : goal.returns-clause-die
returns-clause-die g c = die_goes g.V.Store

pub returns-clause-answer : goal.returns-clause-answer
returns-clause-answer g c = answer_goes g.V.Store

pub returns-clause-perform : goal.returns-clause-perform
returns-clause-perform g c = perform_goes g.V.Store
