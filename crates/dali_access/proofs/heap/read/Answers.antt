use Rattle.dali_access.proofs.HeapLemmas.Dependence.{read_by_reads}
use Rattle.dali_access.proofs.heap.read.Goals as goal

pub returns-then-state-ne-LIVE-clause-by_reads : goal.returns-then-state-ne-LIVE-clause-by_reads
returns-then-state-ne-LIVE-clause-by_reads c = read_by_reads c.args.cell c.args.key c.args.words.now

pub returns-then-found-key-clause-by_reads : goal.returns-then-found-key-clause-by_reads
returns-then-found-key-clause-by_reads c = read_by_reads c.args.cell c.args.key c.args.words.now

pub returns-in-None-clause-by_reads : goal.returns-in-None-clause-by_reads
returns-in-None-clause-by_reads c = read_by_reads c.args.cell c.args.key c.args.words.now

pub returns-in-Some-clause-by_reads : goal.returns-in-Some-clause-by_reads
returns-in-Some-clause-by_reads c = read_by_reads c.args.cell c.args.key c.args.words.now
