use Rattle.dali_runs.proofs.PartsLemmas.Systems.{step_has_system}
use Rattle.dali_runs.proofs.parts.a_step_has_its_system.Goals as goal

pub returns : goal.returns
returns c = step_has_system
