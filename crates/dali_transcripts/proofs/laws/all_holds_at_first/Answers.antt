use Rattle.dali_transcripts.proofs.Together.{together_at_first}
use Rattle.dali_transcripts.proofs.laws.all_holds_at_first.Goals as goal

pub returns : goal.returns
returns c = together_at_first
