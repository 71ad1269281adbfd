use Rattle.dali_runs.proofs.CountsLemmas.SmallLogs.{is_small}
use Rattle.dali_runs.proofs.counts.a_legal_log_is_small.Goals as goal

pub returns : goal.returns
returns c = is_small
