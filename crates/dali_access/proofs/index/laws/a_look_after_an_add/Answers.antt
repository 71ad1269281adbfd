use Rattle.dali_access.proofs.IndexLemmas.Orders.{look_after_add}
use Rattle.dali_access.proofs.index.laws.a_look_after_an_add.Goals as goal

pub returns : goal.returns
returns c = look_after_add
