use Rattle.dali_runs.proofs.CountsLemmas.ShortLogs.{is_short}
use Rattle.dali_runs.proofs.counts.a_legal_log_is_short.Goals as goal

pub returns : goal.returns
returns c = is_short
