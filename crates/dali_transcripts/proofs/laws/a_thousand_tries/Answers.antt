use Rattle.dali_transcripts.proofs.Tries.{thousand_tries}
use Rattle.dali_transcripts.proofs.laws.a_thousand_tries.Goals as goal

pub returns : goal.returns
returns c = thousand_tries
