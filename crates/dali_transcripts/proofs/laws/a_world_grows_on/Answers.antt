use Rattle.dali_transcripts.proofs.Grown.{grows_on}
use Rattle.dali_transcripts.proofs.laws.a_world_grows_on.Goals as goal

pub returns : goal.returns
returns c = grows_on
