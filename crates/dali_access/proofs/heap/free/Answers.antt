use Rattle.dali_access.proofs.HeapLemmas.Dependence.{free_by_reads}
use Rattle.dali_access.proofs.heap.free.Goals as goal

pub returns-clause-by_reads : goal.returns-clause-by_reads
returns-clause-by_reads c = free_by_reads c.args.cell c.args.words.now
