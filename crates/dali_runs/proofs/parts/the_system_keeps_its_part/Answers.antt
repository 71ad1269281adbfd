use Rattle.dali_runs.proofs.PartsLemmas.Systems.{system_keeps}
use Rattle.dali_runs.proofs.parts.the_system_keeps_its_part.Goals as goal

pub returns : goal.returns
returns c = system_keeps
