use Rattle.dali_concurrent.proofs.Stages.{stage_goes, stage_stands, stage_begins, stage_stays, stage_turns}
use Rattle.dali_concurrent.proofs.checkpoints.a_checkpoint_is_as_far_as_the_history_tells.Goals as goal

pub returns : goal.returns
returns c = record {
  goes = stage_goes;
  stands = stage_stands;
  kept = stage_begins;
  stays = stage_stays;
  turns = stage_turns;
}
