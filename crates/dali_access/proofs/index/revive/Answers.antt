use Rattle.dali_access.proofs.IndexLemmas.Dependence.{revive_by_reads}
use Rattle.dali_access.proofs.index.revive.Goals as goal

pub returns-clause-by_reads : goal.returns-clause-by_reads
returns-clause-by_reads c = revive_by_reads c.args.entry c.args.words.now
