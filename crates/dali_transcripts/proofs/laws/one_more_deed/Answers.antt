use Rattle.dali_transcripts.proofs.Paths.{one_more_deed}
use Rattle.dali_transcripts.proofs.laws.one_more_deed.Goals as goal

pub returns : goal.returns
returns c = one_more_deed
