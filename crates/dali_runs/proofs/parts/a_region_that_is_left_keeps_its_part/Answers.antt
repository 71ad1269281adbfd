use Rattle.dali_runs.proofs.PartsLemmas.Regions.{region_misses}
use Rattle.dali_runs.proofs.parts.a_region_that_is_left_keeps_its_part.Goals as goal

pub returns : goal.returns
returns c = region_misses
