use Rattle.dali_access.proofs.HeapLemmas.Orders.{put_reads}
use Rattle.dali_access.proofs.heap.laws.a_put_reads_up_to_the_first_free_cell.Goals as goal

pub returns : goal.returns
returns c = put_reads
