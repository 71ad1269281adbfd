use Rattle.dali_access.proofs.IndexLemmas.EntryLaws.{add_takes_first}
use Rattle.dali_access.proofs.index.laws.an_add_takes_the_first_free_entry.Goals as goal

pub returns : goal.returns
returns c = add_takes_first
