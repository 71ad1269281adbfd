use Rattle.dali_redo.proofs.Ends.{one_pass_recovers, one_pass_comes_to}
use Rattle.dali_redo.proofs.OnePass.{one_pass_keeps}
use Rattle.dali_redo.proofs.laws.one_pass_recovers_without_a_failed_audit.Goals as goal

pub returns-clause-keeps : goal.returns-clause-keeps
returns-clause-keeps c = one_pass_keeps

pub returns-clause-recovers : goal.returns-clause-recovers
returns-clause-recovers c = one_pass_recovers

pub returns-clause-comes : goal.returns-clause-comes
returns-clause-comes c = one_pass_comes_to
