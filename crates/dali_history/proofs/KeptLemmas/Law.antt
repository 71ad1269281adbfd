-- The law of kept records.
use Rattle.dali_history.specs.Kept.Kept.{LawOfKeptRecords}
use Rattle.dali_history.proofs.KeptLemmas.AllUndos.{all_lists}
use Rattle.dali_history.proofs.KeptLemmas.UndoOrder.{same_freed}
use Rattle.dali_history.proofs.KeptLemmas.LawRecord.{kept_stands}

-- each undo finds its slot, in any order, and the image has the serial map's records
pub law_of_kept_records : LawOfKeptRecords
law_of_kept_records s base cuts K order h moved = kept_stands s base cuts K order h (all_lists s base cuts K order h moved) (same_freed s base cuts K order h moved)
