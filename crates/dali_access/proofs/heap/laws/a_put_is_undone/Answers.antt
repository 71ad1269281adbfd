use Rattle.dali_access.proofs.HeapLemmas.CellLaws.{undoes_put}
use Rattle.dali_access.proofs.heap.laws.a_put_is_undone.Goals as goal

pub returns : goal.returns
returns c = undoes_put
