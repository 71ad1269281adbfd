use Rattle.dali_runs.proofs.PartsLemmas.Regions.{step_has_region}
use Rattle.dali_runs.proofs.parts.a_step_has_its_region.Goals as goal

pub returns : goal.returns
returns c = step_has_region
