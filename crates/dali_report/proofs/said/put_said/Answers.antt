use Rattle.dali_report.proofs.said.put_said.Goals as goal

pub returns-in-Checkpointed-clause-ok : goal.returns-in-Checkpointed-clause-ok
returns-in-Checkpointed-clause-ok c = rw c.in-Checkpointed.is c.put_with_number-in-Checkpointed.ensures.ok

pub returns-in-CheckpointFailed-clause-ok : goal.returns-in-CheckpointFailed-clause-ok
returns-in-CheckpointFailed-clause-ok c = rw c.in-CheckpointFailed.is c.put_with_regions.ensures.ok
