use Rattle.dali_history.proofs.RoomLemmas.Plain.{full_is_filled}
use Rattle.dali_history.proofs.room.a_full_database_was_filled.Goals as goal

pub returns : goal.returns
returns c = full_is_filled
