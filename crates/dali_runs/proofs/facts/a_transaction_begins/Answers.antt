use Rattle.dali_runs.proofs.FactsLemmas.Ends.{begin_follows, next_is_unbegun}
use Rattle.dali_runs.proofs.facts.a_transaction_begins.Goals as goal

pub returns-clause-follows : goal.returns-clause-follows
returns-clause-follows c = begin_follows

pub returns-clause-next : goal.returns-clause-next
returns-clause-next c = next_is_unbegun
