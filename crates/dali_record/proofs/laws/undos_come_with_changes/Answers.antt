use Rattle.dali_record.proofs.Undos.{undo_changes}
use Rattle.dali_record.proofs.laws.undos_come_with_changes.Goals as goal

pub returns : goal.returns
returns c = undo_changes
