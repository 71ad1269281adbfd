use Rattle.dali_record.specs.declared.records.Record.TheVariants.{AuditBegin}
use Rattle.dali_recovery.proofs.Records.{takes_as, takes_begin, passed_at, scanned_within}
use Rattle.dali_recovery.proofs.Ordered.{keeps_begin}
use Rattle.std.proofs.Common.{refl}
use Rattle.dali_recovery.proofs.recovery.Recovery.begin_audit.Goals as goal

pub returns-clause-ok : goal.returns-clause-ok
returns-clause-ok c = takes_as c.args.self.now c.pass.new.self c.args.logged.now AuditBegin c.requires (takes_begin c.args.self.now c.pass.new.self c.note.new.numbers c.in_ok-goes_on.ensures.ok c.in_ok-note.ensures.ok (passed_at (record c.args.self.now { audits = c.note.new.numbers }) c.pass.new.self c.args.logged.now AuditBegin c.requires c.pass.ensures.passed))

pub returns-clause-ordered : goal.returns-clause-ordered
returns-clause-ordered c = λ spelled. keeps_begin c.args.self.now c.pass.new.self c.note.new.numbers c.args.logged.now c.requires c.pass.ensures.ordered

pub returns-clause-scanned : goal.returns-clause-scanned
returns-clause-scanned c = scanned_within c.args.self.now c.args.logged.now AuditBegin c.requires refl
