use Rattle.dali_recovery.proofs.Whole.{hands_out_over_batches, names_over_batches}
use Rattle.dali_recovery.proofs.laws.a_recovery_answers_over_batches.Goals as goal

pub returns-clause-names : goal.returns-clause-names
returns-clause-names c = names_over_batches

pub returns-clause-hands_out : goal.returns-clause-hands_out
returns-clause-hands_out c = hands_out_over_batches
