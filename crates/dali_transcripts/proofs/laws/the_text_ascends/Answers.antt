use Rattle.dali_transcripts.proofs.Text.{text_ascends}
use Rattle.dali_transcripts.proofs.laws.the_text_ascends.Goals as goal

pub returns : goal.returns
returns c = text_ascends
