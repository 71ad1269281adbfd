use Rattle.dali_transcripts.proofs.Rounds.{deeds_are_done}
use Rattle.dali_transcripts.proofs.laws.deeds_are_done.Goals as goal

pub returns : goal.returns
returns c = deeds_are_done
