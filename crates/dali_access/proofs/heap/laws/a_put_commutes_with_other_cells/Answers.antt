use Rattle.dali_access.proofs.HeapLemmas.Orders.{put_commutes}
use Rattle.dali_access.proofs.heap.laws.a_put_commutes_with_other_cells.Goals as goal

pub returns : goal.returns
returns c = put_commutes
