use Rattle.dali_access.proofs.IndexLemmas.Steps.{insert_keeps}
use Rattle.dali_access.proofs.index.laws.an_insert_keeps_the_index.Goals as goal

pub returns : goal.returns
returns c = insert_keeps
