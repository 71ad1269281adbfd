use Rattle.dali_runs.proofs.PartsLemmas.Shares.{share_touches}
use Rattle.dali_runs.proofs.parts.a_region_that_is_touched_keeps_its_share.Goals as goal

pub returns : goal.returns
returns c = share_touches
