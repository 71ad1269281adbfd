use Rattle.dali_access.proofs.IndexLemmas.Steps.{put_keeps}
use Rattle.dali_access.proofs.index.laws.a_put_keeps_the_index.Goals as goal

pub returns : goal.returns
returns c = put_keeps
