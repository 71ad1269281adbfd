use Rattle.dali_runs.proofs.PartsLemmas.Locks.{locks_grant}
use Rattle.dali_runs.proofs.parts.locks_that_are_granted_keep_their_part.Goals as goal

pub returns : goal.returns
returns c = locks_grant
