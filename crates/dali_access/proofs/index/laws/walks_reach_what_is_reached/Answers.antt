use Rattle.dali_access.proofs.IndexLemmas.Stored.{walks_are_reached}
use Rattle.dali_access.proofs.index.laws.walks_reach_what_is_reached.Goals as goal

pub returns : goal.returns
returns c = walks_are_reached
