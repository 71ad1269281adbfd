use Rattle.dali_access.proofs.IndexLemmas.EntryLaws.{entries_commute}
use Rattle.dali_access.proofs.index.laws.operations_on_two_entries_commute.Goals as goal

pub returns : goal.returns
returns c = entries_commute
