use Rattle.std.proofs.Common.{sym, refl, ◌∙◌}
use Rattle.dali_record.specs.declared.records.Record.TheVariants.{AuditFail}
use Rattle.dali_recovery.proofs.Records.{takes_as, takes_fail, passed_at, scanned_within}
use Rattle.dali_recovery.proofs.Ordered.{keeps_fail}
use Rattle.dali_recovery.proofs.recovery.Recovery.fail_audit.Goals as goal

pub returns-clause-ok : goal.returns-clause-ok
returns-clause-ok c = takes_as c.args.self.now _ c.args.logged.now (AuditFail c.args.begin c.args.regions.now) c.requires (takes_fail c.args.self.now c.args.begin c.args.regions.now c.pass.new.self c.in_ok-failing.failing c.in_ok-failing.ensures.items c.in_ok-may_end.ensures.ok.0 c.in_ok-may_end.ensures.ok.1 (sym c.are_regions.ensures ∙ c.if-not-are_regions.false) (passed_at c.args.self.now c.pass.new.self c.args.logged.now (AuditFail c.args.begin c.args.regions.now) c.requires c.pass.ensures.passed))

pub returns-clause-ordered : goal.returns-clause-ordered
returns-clause-ordered c = λ spelled. keeps_fail c.args.self.now c.pass.new.self c.in_ok-failing.failing c.args.begin c.args.regions.now c.args.logged.now c.requires c.pass.ensures.ordered

pub returns-clause-scanned : goal.returns-clause-scanned
returns-clause-scanned c = scanned_within c.args.self.now c.args.logged.now (AuditFail c.args.begin c.args.regions.now) c.requires refl
