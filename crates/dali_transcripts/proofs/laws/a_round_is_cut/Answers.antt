use Rattle.dali_transcripts.proofs.Rounds.{round_is_cut}
use Rattle.dali_transcripts.proofs.laws.a_round_is_cut.Goals as goal

pub returns : goal.returns
returns c = round_is_cut
