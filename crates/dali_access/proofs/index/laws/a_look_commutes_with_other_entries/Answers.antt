use Rattle.dali_access.proofs.IndexLemmas.Orders.{look_commutes}
use Rattle.dali_access.proofs.index.laws.a_look_commutes_with_other_entries.Goals as goal

pub returns : goal.returns
returns c = look_commutes
