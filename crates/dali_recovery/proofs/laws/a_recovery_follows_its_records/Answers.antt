use Rattle.dali_recovery.proofs.Whole.{begins_behind, takes_further}
use Rattle.dali_recovery.proofs.laws.a_recovery_follows_its_records.Goals as goal

pub returns-clause-begins : goal.returns-clause-begins
returns-clause-begins c = begins_behind

pub returns-clause-takes : goal.returns-clause-takes
returns-clause-takes c = takes_further
