use Rattle.dali_runs.proofs.AuditSteps.{audit_begin_keeps}
use Rattle.dali_runs.proofs.laws.audit_begin_keeps_a_run.Goals as goal

pub returns : goal.returns
returns c = audit_begin_keeps
