use Rattle.dali_crash.proofs.Checkpointed.{worked_checkpoint}
use Rattle.dali_crash.proofs.laws.a_worked_checkpoint.Goals as goal

pub returns : goal.returns
returns c = worked_checkpoint
