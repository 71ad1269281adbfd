use Rattle.dali_access.proofs.IndexLemmas.EntryLaws.{undoes_add}
use Rattle.dali_access.proofs.index.laws.an_add_is_undone.Goals as goal

pub returns : goal.returns
returns c = undoes_add
