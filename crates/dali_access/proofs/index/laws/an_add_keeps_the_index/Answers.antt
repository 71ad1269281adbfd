use Rattle.dali_access.proofs.IndexLemmas.Steps.{add_keeps}
use Rattle.dali_access.proofs.index.laws.an_add_keeps_the_index.Goals as goal

pub returns : goal.returns
returns c = add_keeps
