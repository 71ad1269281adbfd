use Rattle.dali_history.proofs.RoomLemmas.Plain.{takes_few}
use Rattle.dali_history.proofs.room.each_insert_takes_one.Goals as goal

pub returns : goal.returns
returns c = takes_few
