use Rattle.dali_runs.proofs.PartsLemmas.Regions.{region_touches}
use Rattle.dali_runs.proofs.parts.a_region_that_is_touched_keeps_its_part.Goals as goal

pub returns : goal.returns
returns c = region_touches
