use Rattle.dali_transcripts.proofs.Left.{left_have_died}
use Rattle.dali_transcripts.proofs.laws.who_is_left_has_died.Goals as goal

pub returns : goal.returns
returns c = left_have_died
