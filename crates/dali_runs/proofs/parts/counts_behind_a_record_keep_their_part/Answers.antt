use Rattle.dali_runs.proofs.PartsLemmas.Counts.{counts_log}
use Rattle.dali_runs.proofs.parts.counts_behind_a_record_keep_their_part.Goals as goal

pub returns : goal.returns
returns c = counts_log
