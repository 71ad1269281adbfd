use Rattle.dali_runs.proofs.CountsLemmas.LightLogs.{is_light}
use Rattle.dali_runs.proofs.counts.a_legal_log_is_light.Goals as goal

pub returns : goal.returns
returns c = is_light
