use Rattle.dali_transcripts.proofs.Deeds.{deeds_are_told}
use Rattle.dali_transcripts.proofs.laws.each_deed_is_told.Goals as goal

pub returns : goal.returns
returns c = deeds_are_told
