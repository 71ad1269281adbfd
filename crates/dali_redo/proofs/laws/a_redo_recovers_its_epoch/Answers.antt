use Rattle.dali_redo.proofs.Ends.{recovers, comes_to}
use Rattle.dali_redo.proofs.laws.a_redo_recovers_its_epoch.Goals as goal

pub returns-clause-recovers : goal.returns-clause-recovers
returns-clause-recovers c = recovers

pub returns-clause-comes : goal.returns-clause-comes
returns-clause-comes c = comes_to
