use Rattle.dali_access.proofs.IndexLemmas.EntryLaws.{undoes_kill}
use Rattle.dali_access.proofs.index.laws.a_kill_is_undone.Goals as goal

pub returns : goal.returns
returns c = undoes_kill
