use Rattle.dali_runs.proofs.AuditSteps.{pass_finds}
use Rattle.dali_runs.proofs.laws.a_pass_finds_a_stray_write.Goals as goal

pub returns : goal.returns
returns c = pass_finds
