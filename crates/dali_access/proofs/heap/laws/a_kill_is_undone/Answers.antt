use Rattle.dali_access.proofs.HeapLemmas.CellLaws.{undoes_kill}
use Rattle.dali_access.proofs.heap.laws.a_kill_is_undone.Goals as goal

pub returns : goal.returns
returns c = undoes_kill
