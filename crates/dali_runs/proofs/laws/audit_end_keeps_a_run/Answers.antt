use Rattle.dali_runs.proofs.AuditSteps.{audit_end_keeps}
use Rattle.dali_runs.proofs.laws.audit_end_keeps_a_run.Goals as goal

pub returns : goal.returns
returns c = audit_end_keeps
