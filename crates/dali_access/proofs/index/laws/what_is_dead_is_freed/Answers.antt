use Rattle.dali_access.proofs.IndexLemmas.Steps.{dead_are_freed}
use Rattle.dali_access.proofs.index.laws.what_is_dead_is_freed.Goals as goal

pub returns : goal.returns
returns c = dead_are_freed
