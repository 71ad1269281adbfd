use Rattle.dali_recovery.proofs.Epochs.{none_gone, gone_scanned}
use Rattle.dali_recovery.proofs.recovery.Recovery.deleted_so_far.Goals as goal

pub returns-in-None-clause-ok : goal.returns-in-None-clause-ok
returns-in-None-clause-ok c = none_gone c.args.self.now c.new.result.items c.in-None.is c.new.ensures.items

pub returns-in_ok-deleted-in-Some-clause-ok : goal.returns-in_ok-deleted-in-Some-clause-ok
returns-in_ok-deleted-in-Some-clause-ok c = gone_scanned c.args.self.now c.in-Some.scan c.in_ok-deleted-in-Some.field-0.items c.in-Some.is c.in_ok-deleted-in-Some.ensures.deleted
