use Rattle.dali_run.proofs.Straying.{lone_audit_tells}
use Rattle.dali_run.proofs.laws.a_lone_audit_names_stray_writes.Goals as goal

pub returns : goal.returns
returns g c = λ precheck. lone_audit_tells g.V.Store precheck
