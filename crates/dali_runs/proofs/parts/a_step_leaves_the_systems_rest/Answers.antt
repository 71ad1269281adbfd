use Rattle.dali_runs.proofs.PartsLemmas.Systems.{system_leaves}
use Rattle.dali_runs.proofs.parts.a_step_leaves_the_systems_rest.Goals as goal

pub returns : goal.returns
returns c = system_leaves
