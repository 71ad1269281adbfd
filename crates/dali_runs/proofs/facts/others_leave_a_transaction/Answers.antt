use Rattle.dali_runs.proofs.FactsLemmas.Ends.{others_leave}
use Rattle.dali_runs.proofs.facts.others_leave_a_transaction.Goals as goal

pub returns : goal.returns
returns c = others_leave
