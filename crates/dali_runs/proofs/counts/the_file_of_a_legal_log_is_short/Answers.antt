use Rattle.dali_runs.proofs.CountsLemmas.ShortLogs.{file_is_short}
use Rattle.dali_runs.proofs.counts.the_file_of_a_legal_log_is_short.Goals as goal

pub returns : goal.returns
returns c = file_is_short
