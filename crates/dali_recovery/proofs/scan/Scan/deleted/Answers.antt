use Rattle.dali_recovery.specs.Standing.{assumed_by}
use Rattle.std.proofs.Common.{Some}
use Rattle.dali_recovery.proofs.scan.Scan.deleted.Goals as goal

pub returns-clause-deleted : goal.returns-clause-deleted
returns-clause-deleted c = λ p k s f. c.deleted.ensures.deleted s (assumed_by (Some c.args.self.now) p) k f
