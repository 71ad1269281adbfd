use Rattle.dali_crash.proofs.StoreRuns.{turn_ends, turn_leaves}
use Rattle.dali_crash.proofs.laws.a_checkpoint_ends.Goals as goal

pub returns : goal.returns
returns c = record { point = turn_ends; image = turn_leaves }
