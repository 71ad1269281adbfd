use Rattle.dali_crash.proofs.CheckpointFaults.{worked_faults}
use Rattle.dali_crash.proofs.laws.worked_checkpoints_that_fail.Goals as goal

pub returns : goal.returns
returns c = worked_faults
