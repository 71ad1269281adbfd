use Rattle.dali_redo.proofs.Told.{tests_rules}
use Rattle.dali_redo.proofs.Whole.{spelled_undo}
use Rattle.dali_redo.proofs.laws.the_rules_are_those_of_a_restart.Goals as goal

pub returns-clause-rules : goal.returns-clause-rules
returns-clause-rules c = tests_rules

pub returns-clause-spelled : goal.returns-clause-spelled
returns-clause-spelled c = spelled_undo
