use Rattle.dali_runs.proofs.OpenAudits.{audit_goes_on}
use Rattle.dali_runs.proofs.laws.an_audit_goes_on.Goals as goal

pub returns : goal.returns
returns c = audit_goes_on
