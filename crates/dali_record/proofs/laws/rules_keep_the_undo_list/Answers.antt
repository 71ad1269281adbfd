use Rattle.dali_record.proofs.Tracks.{active-undos}
use Rattle.dali_record.proofs.laws.rules_keep_the_undo_list.Goals as goal

pub returns : goal.returns
returns c = active-undos
