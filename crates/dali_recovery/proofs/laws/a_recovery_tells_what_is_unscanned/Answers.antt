use Rattle.dali_recovery.proofs.Whole.{tells_unscanned, scans_behind, stays_assumed}
use Rattle.dali_recovery.proofs.laws.a_recovery_tells_what_is_unscanned.Goals as goal

pub returns-clause-tells : goal.returns-clause-tells
returns-clause-tells c = tells_unscanned

pub returns-clause-scans : goal.returns-clause-scans
returns-clause-scans c = scans_behind

pub returns-clause-stays : goal.returns-clause-stays
returns-clause-stays c = stays_assumed
