use Rattle.dali_recovery.proofs.Whole.{none_is_misfit, recovers_legal, recovers_history}
use Rattle.dali_recovery.proofs.laws.a_recovery_recovers_the_log.Goals as goal

pub returns-clause-fits : goal.returns-clause-fits
returns-clause-fits c = none_is_misfit

pub returns-clause-legal : goal.returns-clause-legal
returns-clause-legal c = recovers_legal

pub returns-clause-histories : goal.returns-clause-histories
returns-clause-histories c = recovers_history
