use Rattle.dali_access.proofs.IndexLemmas.Steps.{revive_entry_keeps}
use Rattle.dali_access.proofs.index.laws.a_revived_entry_keeps_the_index.Goals as goal

pub returns : goal.returns
returns c = revive_entry_keeps
