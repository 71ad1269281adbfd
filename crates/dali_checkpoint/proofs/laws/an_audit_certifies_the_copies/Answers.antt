use Rattle.dali_checkpoint.proofs.Others.{others_keep, audits_tell}
use Rattle.dali_checkpoint.proofs.Flushing.{flush_keeps}
use Rattle.dali_checkpoint.proofs.laws.an_audit_certifies_the_copies.Goals as goal

pub returns : goal.returns
returns g c = record { others = others_keep g.V.Store; flush = flush_keeps g.V.Store; audit = audits_tell }
