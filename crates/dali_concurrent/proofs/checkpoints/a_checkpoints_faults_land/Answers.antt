use Rattle.dali_concurrent.proofs.Copying.{copy_fails_land, head_fails_land, sync_fails_land, turn_fails_land}
use Rattle.dali_concurrent.proofs.checkpoints.a_checkpoints_faults_land.Goals as goal

pub returns : goal.returns
returns c = record {
  copy = copy_fails_land;
  head = head_fails_land;
  sync = sync_fails_land;
  turn = turn_fails_land;
}
