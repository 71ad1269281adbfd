use Rattle.dali_access.proofs.HeapLemmas.Dependence.{kill_by_reads}
use Rattle.dali_access.proofs.heap.kill.Goals as goal

pub returns-then-state-ne-LIVE-clause-by_reads : goal.returns-then-state-ne-LIVE-clause-by_reads
returns-then-state-ne-LIVE-clause-by_reads c = kill_by_reads c.args.cell c.args.key c.args.words.now

pub returns-then-found-key-clause-by_reads : goal.returns-then-found-key-clause-by_reads
returns-then-found-key-clause-by_reads c = kill_by_reads c.args.cell c.args.key c.args.words.now

pub returns-then-not-is_size-clause-by_reads : goal.returns-then-not-is_size-clause-by_reads
returns-then-not-is_size-clause-by_reads c = kill_by_reads c.args.cell c.args.key c.args.words.now

pub returns-clause-by_reads : goal.returns-clause-by_reads
returns-clause-by_reads c = kill_by_reads c.args.cell c.args.key c.args.words.now
