use Rattle.dali_access.proofs.HeapLemmas.Orders.{put_takes_freed}
use Rattle.dali_access.proofs.heap.laws.a_put_takes_a_cell_freed_before.Goals as goal

pub returns : goal.returns
returns c = put_takes_freed
