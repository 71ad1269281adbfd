use Rattle.dali_runs.proofs.AuditSteps.{pass_certifies}
use Rattle.dali_runs.proofs.laws.a_pass_certifies.Goals as goal

pub returns : goal.returns
returns c = pass_certifies
