use Rattle.dali_transcripts.proofs.LooksRight.{looks_stay_right}
use Rattle.dali_transcripts.proofs.laws.looks_stay_right.Goals as goal

pub returns : goal.returns
returns c = looks_stay_right
