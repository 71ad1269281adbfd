use Rattle.dali_report.proofs.said.put_refusal.Goals as goal

pub returns-in-StoreStopped-clause-ok : goal.returns-in-StoreStopped-clause-ok
returns-in-StoreStopped-clause-ok c = rw c.in-StoreStopped.is c.put_with_name-in-StoreStopped.ensures.ok

pub returns-in-InProgress-clause-ok : goal.returns-in-InProgress-clause-ok
returns-in-InProgress-clause-ok c = rw c.in-InProgress.is c.put_with_name-in-InProgress.ensures.ok
