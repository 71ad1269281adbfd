use Rattle.dali_history.proofs.RoomLemmas.Plain.{none_is_full}
use Rattle.dali_history.proofs.room.room_for_each_insert.Goals as goal

pub returns : goal.returns
returns c = none_is_full
