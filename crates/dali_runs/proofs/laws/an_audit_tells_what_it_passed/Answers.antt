use Rattle.dali_runs.proofs.Courses.{audit_end_tells}
use Rattle.dali_runs.proofs.laws.an_audit_tells_what_it_passed.Goals as goal

pub returns : goal.returns
returns c = audit_end_tells
