use Rattle.dali_access.proofs.HeapLemmas.CellLaws.{puts_within}
use Rattle.dali_access.proofs.heap.laws.a_put_writes_what_it_reads.Goals as goal

pub returns : goal.returns
returns c = puts_within
