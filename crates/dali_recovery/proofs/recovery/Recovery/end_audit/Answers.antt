use Rattle.std.proofs.Common.{refl}
use Rattle.dali_record.specs.declared.records.Record.TheVariants.{AuditClean}
use Rattle.dali_recovery.proofs.Records.{takes_as, takes_clean, passed_at, scanned_within}
use Rattle.dali_recovery.proofs.Ordered.{keeps_clean}
use Rattle.dali_recovery.proofs.recovery.Recovery.end_audit.Goals as goal

pub returns-clause-ok : goal.returns-clause-ok
returns-clause-ok c = takes_as c.args.self.now _ c.args.logged.now (AuditClean c.args.begin) c.requires (takes_clean c.args.self.now c.pass.new.self c.args.begin c.later-clean.result c.later-clean.ensures c.in_ok-may_end.ensures.ok.0 c.in_ok-may_end.ensures.ok.1 (passed_at c.args.self.now c.pass.new.self c.args.logged.now (AuditClean c.args.begin) c.requires c.pass.ensures.passed))

pub returns-clause-ordered : goal.returns-clause-ordered
returns-clause-ordered c = λ spelled. keeps_clean c.args.self.now c.pass.new.self c.later-clean.result c.args.begin c.args.logged.now c.requires c.pass.ensures.ordered

pub returns-clause-scanned : goal.returns-clause-scanned
returns-clause-scanned c = scanned_within c.args.self.now c.args.logged.now (AuditClean c.args.begin) c.requires refl
