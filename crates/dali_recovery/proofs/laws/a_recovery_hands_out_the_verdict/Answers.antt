use Rattle.dali_recovery.proofs.Whole.{hands_out_verdict}
use Rattle.dali_recovery.proofs.laws.a_recovery_hands_out_the_verdict.Goals as goal

pub returns : goal.returns
returns c = hands_out_verdict
