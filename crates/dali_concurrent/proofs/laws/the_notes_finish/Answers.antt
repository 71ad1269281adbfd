use Rattle.dali_concurrent.proofs.Finish.{notes_finish}
use Rattle.dali_concurrent.proofs.laws.the_notes_finish.Goals as goal

pub returns : goal.returns
returns c = notes_finish
