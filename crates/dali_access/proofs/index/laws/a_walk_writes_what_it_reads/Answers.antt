use Rattle.dali_access.proofs.IndexLemmas.EntryLaws.{walks_within}
use Rattle.dali_access.proofs.index.laws.a_walk_writes_what_it_reads.Goals as goal

pub returns : goal.returns
returns c = walks_within
