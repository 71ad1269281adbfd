use Rattle.dali_transcripts.proofs.Growing.{right_goes_on}
use Rattle.dali_transcripts.proofs.laws.each_deed_stays_right.Goals as goal

pub returns : goal.returns
returns c = right_goes_on
