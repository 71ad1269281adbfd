use Rattle.dali_redo.proofs.Ends.{tells_rolled}
use Rattle.dali_redo.proofs.laws.those_at_work_are_rolled_back.Goals as goal

pub returns : goal.returns
returns c = tells_rolled
