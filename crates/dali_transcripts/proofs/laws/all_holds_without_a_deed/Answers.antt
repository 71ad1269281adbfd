use Rattle.dali_transcripts.proofs.Together.{together_by_none}
use Rattle.dali_transcripts.proofs.laws.all_holds_without_a_deed.Goals as goal

pub returns : goal.returns
returns c = together_by_none
