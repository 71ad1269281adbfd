use Rattle.dali_access.proofs.IndexLemmas.EntryLaws.{operations_stay}
use Rattle.dali_access.proofs.index.laws.operations_stay_in_their_entry.Goals as goal

pub returns : goal.returns
returns c = operations_stay
