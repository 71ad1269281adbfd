use Rattle.dali_recovery.proofs.Records.{is_quiet, scanned_within, takes_again}
use Rattle.dali_recovery.proofs.Ordered.{keeps_again}
use Rattle.std.proofs.Common.{refl}
use Rattle.dali_recovery.proofs.recovery.Recovery.take_again.Goals as goal

pub returns-clause-ok : goal.returns-clause-ok
returns-clause-ok c = takes_again c.args.self.now c.pass.new.self c.make.new.redo c.make.new.scan c.args.logged.now c.requires.tested c.in_ok-goes_on.ensures.ok c.in_ok-make.ensures.ok c.pass.ensures.passed

pub returns-clause-ordered : goal.returns-clause-ordered
returns-clause-ordered c = λ spelled. keeps_again c.args.self.now c.pass.new.self c.make.new.redo c.make.new.scan c.args.logged.now c.in_ok-make.ensures.ordered c.pass.ensures.ordered

pub returns-clause-scanned : goal.returns-clause-scanned
returns-clause-scanned c = scanned_within c.args.self.now c.args.logged.now c.args.logged.now refl (is_quiet c.args.logged.now c.requires.tested).inside
