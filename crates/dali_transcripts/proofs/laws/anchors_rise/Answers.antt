use Rattle.dali_transcripts.proofs.Rounds.{anchors_rise}
use Rattle.dali_transcripts.proofs.laws.anchors_rise.Goals as goal

pub returns : goal.returns
returns c = anchors_rise
