use Rattle.dali_runs.proofs.PartsLemmas.Locks.{locks_log}
use Rattle.dali_runs.proofs.parts.locks_behind_a_record_keep_their_part.Goals as goal

pub returns : goal.returns
returns c = locks_log
