use Rattle.dali_runs.proofs.AuditSteps.{certifies_stays}
use Rattle.dali_runs.proofs.laws.what_a_pass_found_stays.Goals as goal

pub returns : goal.returns
returns c = certifies_stays
