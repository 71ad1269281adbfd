use Rattle.dali_concurrent.proofs.Checking.{stage_sees, calm_sees}
use Rattle.dali_concurrent.proofs.checkpoints.others_leave_a_checkpoint.Goals as goal

pub returns : goal.returns
returns c = record {
  stage = stage_sees;
  calm = calm_sees;
}
