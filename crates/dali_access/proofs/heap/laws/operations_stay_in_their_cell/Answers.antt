use Rattle.dali_access.proofs.HeapLemmas.CellLaws.{operations_stay}
use Rattle.dali_access.proofs.heap.laws.operations_stay_in_their_cell.Goals as goal

pub returns : goal.returns
returns c = operations_stay
