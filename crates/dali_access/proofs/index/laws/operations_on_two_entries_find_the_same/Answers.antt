use Rattle.dali_access.proofs.IndexLemmas.Orders.{operations_commute}
use Rattle.dali_access.proofs.index.laws.operations_on_two_entries_find_the_same.Goals as goal

pub returns : goal.returns
returns c = operations_commute
