use Rattle.dali_access.proofs.IndexLemmas.Steps.{others_keep}
use Rattle.dali_access.proofs.index.laws.other_operations_keep_the_index.Goals as goal

pub returns : goal.returns
returns c = others_keep
