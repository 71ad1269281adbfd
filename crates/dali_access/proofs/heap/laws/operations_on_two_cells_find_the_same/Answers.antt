use Rattle.dali_access.proofs.HeapLemmas.Orders.{operations_commute}
use Rattle.dali_access.proofs.heap.laws.operations_on_two_cells_find_the_same.Goals as goal

pub returns : goal.returns
returns c = operations_commute
