use Rattle.dali_runs.proofs.PartsLemmas.Logs.{system_has_log}
use Rattle.dali_runs.proofs.parts.a_step_has_its_log.Goals as goal

pub returns : goal.returns
returns c = system_has_log
