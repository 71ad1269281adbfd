use Rattle.dali_runs.proofs.OpenAudits.{audit_starts}
use Rattle.dali_runs.proofs.laws.an_audit_starts.Goals as goal

pub returns : goal.returns
returns c = audit_starts
