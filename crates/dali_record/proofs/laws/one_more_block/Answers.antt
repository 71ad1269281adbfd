use Rattle.dali_record.proofs.Pushes.{touch_old, touch_new, redo_all_push, AreSound-push}
use Rattle.dali_record.proofs.laws.one_more_block.Goals as goal

pub returns : goal.returns
returns c = record {
  old = touch_old;
  new = touch_new;
  redone = redo_all_push;
  sound = AreSound-push;
}
