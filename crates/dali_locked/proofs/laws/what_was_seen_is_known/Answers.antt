use Rattle.dali_locked.proofs.LockingLaws.{seen_stays, numbers_ascend, passes_are_known}
use Rattle.dali_locked.proofs.laws.what_was_seen_is_known.Goals as goal

pub returns-clause-stays : goal.returns-clause-stays
returns-clause-stays g c = seen_stays g.B.Beginning.begun

pub returns-clause-ascend : goal.returns-clause-ascend
returns-clause-ascend g c = numbers_ascend g.B.Beginning.begun

pub returns-clause-passes : goal.returns-clause-passes
returns-clause-passes g c = passes_are_known g.B.Beginning.begun
