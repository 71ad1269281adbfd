use Rattle.dali_concurrent.proofs.WorkedCheckpoint.{worked_checkpoint}
use Rattle.dali_concurrent.proofs.examples.a_checkpoint_follows.Goals as goal

pub returns : goal.returns
returns c = worked_checkpoint
