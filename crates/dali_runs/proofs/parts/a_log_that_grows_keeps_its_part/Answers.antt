use Rattle.dali_runs.proofs.PartsLemmas.Logs.{held_is_free, log_logs}
use Rattle.dali_runs.proofs.parts.a_log_that_grows_keeps_its_part.Goals as goal

pub returns : goal.returns
returns c = record { logs = log_logs; free = held_is_free }
