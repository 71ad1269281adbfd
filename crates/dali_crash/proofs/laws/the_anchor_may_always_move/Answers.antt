use Rattle.dali_crash.proofs.StoreRuns.{current_is_small}
use Rattle.dali_crash.proofs.laws.the_anchor_may_always_move.Goals as goal

pub returns : goal.returns
returns c = current_is_small
