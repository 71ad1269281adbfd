use Rattle.dali_access.proofs.IndexLemmas.Orders.{look_finds}
use Rattle.dali_access.proofs.index.laws.a_look_finds_the_same_after_other_entries.Goals as goal

pub returns : goal.returns
returns c = look_finds
