use Rattle.dali_runs.proofs.PartsLemmas.Regions.{region_keeps}
use Rattle.dali_runs.proofs.parts.each_region_keeps_its_part.Goals as goal

pub returns : goal.returns
returns c = region_keeps
