use Rattle.dali_resume.proofs.Misfits.{fronts_stand, tests_are_rules}
use Rattle.dali_resume.proofs.laws.the_tests_are_the_rules_of_the_log.Goals as goal

pub returns-clause-stands : goal.returns-clause-stands
returns-clause-stands c = fronts_stand

pub returns-clause-rules : goal.returns-clause-rules
returns-clause-rules c = tests_are_rules
