use Rattle.dali_access.proofs.IndexLemmas.Steps.{delete_keeps}
use Rattle.dali_access.proofs.index.laws.a_delete_keeps_the_index.Goals as goal

pub returns : goal.returns
returns c = delete_keeps
