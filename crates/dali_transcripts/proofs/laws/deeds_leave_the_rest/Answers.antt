use Rattle.dali_transcripts.proofs.Touches.{others_are_left}
use Rattle.dali_transcripts.proofs.laws.deeds_leave_the_rest.Goals as goal

pub returns : goal.returns
returns c = others_are_left
