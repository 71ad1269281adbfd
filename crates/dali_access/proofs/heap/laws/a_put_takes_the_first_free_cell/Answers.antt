use Rattle.dali_access.proofs.HeapLemmas.CellLaws.{put_takes_first}
use Rattle.dali_access.proofs.heap.laws.a_put_takes_the_first_free_cell.Goals as goal

pub returns : goal.returns
returns c = put_takes_first
