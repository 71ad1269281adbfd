use Rattle.dali_access.proofs.IndexLemmas.Stored.{records_are_stored}
use Rattle.dali_access.proofs.index.laws.records_are_what_entries_stand_for.Goals as goal

pub returns : goal.returns
returns c = records_are_stored
