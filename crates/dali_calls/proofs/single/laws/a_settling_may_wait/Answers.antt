use Rattle.dali_calls.proofs.SingleLemmas.Promising.{settling_waits}
use Rattle.dali_calls.proofs.SingleLemmas.Standing.{committed_waits}
use Rattle.dali_calls.proofs.single.laws.a_settling_may_wait.Goals as goal

pub returns-clause-settling : goal.returns-clause-settling
returns-clause-settling c = settling_waits

pub returns-clause-committed : goal.returns-clause-committed
returns-clause-committed c = committed_waits
