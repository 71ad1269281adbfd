use Rattle.dali_access.proofs.HeapLemmas.Dependence.{revive_by_reads}
use Rattle.dali_access.proofs.heap.revive.Goals as goal

pub returns-clause-by_reads : goal.returns-clause-by_reads
returns-clause-by_reads c = revive_by_reads c.args.cell c.args.words.now
