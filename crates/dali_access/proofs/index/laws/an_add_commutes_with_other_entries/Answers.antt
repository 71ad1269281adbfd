use Rattle.dali_access.proofs.IndexLemmas.Orders.{add_commutes}
use Rattle.dali_access.proofs.index.laws.an_add_commutes_with_other_entries.Goals as goal

pub returns : goal.returns
returns c = add_commutes
