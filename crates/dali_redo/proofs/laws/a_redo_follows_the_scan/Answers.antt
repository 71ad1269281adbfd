use Rattle.dali_redo.proofs.Follows.{applies_on, skips_on}
use Rattle.dali_redo.proofs.Starts.{starts_redo, ends_epoch}
use Rattle.dali_redo.proofs.laws.a_redo_follows_the_scan.Goals as goal

pub returns-clause-starts : goal.returns-clause-starts
returns-clause-starts c = starts_redo

pub returns-clause-applies : goal.returns-clause-applies
returns-clause-applies c = applies_on

pub returns-clause-skips : goal.returns-clause-skips
returns-clause-skips c = skips_on

pub returns-clause-ends : goal.returns-clause-ends
returns-clause-ends c = ends_epoch
