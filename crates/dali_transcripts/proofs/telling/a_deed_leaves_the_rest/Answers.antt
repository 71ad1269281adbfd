use Rattle.dali_transcripts.proofs.TellingLemmas.Effects.{deed_leaves}
use Rattle.dali_transcripts.proofs.telling.a_deed_leaves_the_rest.Goals as goal

pub returns : goal.returns
returns c = deed_leaves
