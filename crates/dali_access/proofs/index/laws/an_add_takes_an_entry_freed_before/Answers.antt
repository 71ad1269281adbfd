use Rattle.dali_access.proofs.IndexLemmas.Orders.{add_takes_freed}
use Rattle.dali_access.proofs.index.laws.an_add_takes_an_entry_freed_before.Goals as goal

pub returns : goal.returns
returns c = add_takes_freed
