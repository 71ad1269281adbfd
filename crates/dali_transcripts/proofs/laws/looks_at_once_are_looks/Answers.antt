use Rattle.dali_transcripts.proofs.Looks.{at_once_tells}
use Rattle.dali_transcripts.proofs.laws.looks_at_once_are_looks.Goals as goal

pub returns : goal.returns
returns c = at_once_tells
