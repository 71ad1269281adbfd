use Rattle.dali_access.proofs.HeapLemmas.Dependence.{restore_by_reads}
use Rattle.dali_access.proofs.heap.restore.Goals as goal

pub returns-clause-by_reads : goal.returns-clause-by_reads
returns-clause-by_reads c = restore_by_reads c.args.cell c.args.length c.args.value.now c.args.words.now
