use Rattle.dali_recovery.proofs.Epochs.{scans_on}
use Rattle.dali_recovery.proofs.Ordered.{keeps_scan}
use Rattle.dali_recovery.proofs.recovery.Recovery.scan.Goals as goal

pub returns-clause-ok : goal.returns-clause-ok
returns-clause-ok c = scans_on c.args.self.now c.in_ok-scan.scan c.args.clean c.args.failing.now c.requires c.in_ok-scan.ensures.assumes.0 c.in_ok-scan.ensures.assumes.1 c.in_ok-scan.ensures.follows

pub returns-clause-ordered : goal.returns-clause-ordered
returns-clause-ordered c = keeps_scan c.args.self.now c.in_ok-scan.scan
