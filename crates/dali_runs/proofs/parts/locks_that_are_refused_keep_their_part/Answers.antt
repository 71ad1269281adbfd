use Rattle.dali_runs.proofs.PartsLemmas.Locks.{locks_refuse}
use Rattle.dali_runs.proofs.parts.locks_that_are_refused_keep_their_part.Goals as goal

pub returns : goal.returns
returns c = locks_refuse
