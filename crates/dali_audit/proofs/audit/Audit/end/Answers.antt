use Rattle.dali_audit.proofs.Collected.{end_is_spelled}
use Rattle.dali_audit.proofs.audit.Audit.end.Goals as goal

pub log_end-requires : goal.log_end-requires
log_end-requires c = rw (c.collect-failing.ensures, c.deref.ensures.value) (end_is_spelled c.self.inside.begin c.self.inside.findings.items c.self.invariant.number c.self.invariant.few)
