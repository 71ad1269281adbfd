use Rattle.dali_runs.proofs.PartsLemmas.Regions.{region_moves}
use Rattle.dali_runs.proofs.parts.a_region_keeps_its_part.Goals as goal

pub returns : goal.returns
returns c = region_moves
