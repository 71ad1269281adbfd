use Rattle.dali_concurrent.proofs.Copying.{starts_land, finishes_land, keeps_land, copies_land, skips_land, writes_head_land, syncs_land, turns_land}
use Rattle.dali_concurrent.proofs.checkpoints.a_checkpoints_steps_land.Goals as goal

pub returns : goal.returns
returns c = record {
  starts = starts_land;
  finishes = finishes_land;
  keeps = keeps_land;
  copies = copies_land;
  skips = skips_land;
  written = writes_head_land;
  synced = syncs_land;
  turns = turns_land;
}
