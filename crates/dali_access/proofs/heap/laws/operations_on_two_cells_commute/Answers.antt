use Rattle.dali_access.proofs.HeapLemmas.CellLaws.{cells_commute}
use Rattle.dali_access.proofs.heap.laws.operations_on_two_cells_commute.Goals as goal

pub returns : goal.returns
returns c = cells_commute
