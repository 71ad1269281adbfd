use Rattle.dali_runs.proofs.PartsLemmas.Regions.{regions_leave}
use Rattle.dali_runs.proofs.parts.a_step_leaves_other_regions.Goals as goal

pub returns : goal.returns
returns c = regions_leave
