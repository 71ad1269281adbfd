use Rattle.dali_access.proofs.HeapLemmas.CellLaws.{undoes_change}
use Rattle.dali_access.proofs.heap.laws.a_change_is_undone.Goals as goal

pub returns : goal.returns
returns c = undoes_change
