use Rattle.dali_transcripts.proofs.Rounds.{deed_is_done}
use Rattle.dali_transcripts.proofs.laws.a_deed_is_done.Goals as goal

pub returns : goal.returns
returns c = deed_is_done
