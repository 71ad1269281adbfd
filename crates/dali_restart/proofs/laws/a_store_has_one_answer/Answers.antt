use Rattle.dali_restart.proofs.Exact.{one_answer}
use Rattle.dali_restart.proofs.laws.a_store_has_one_answer.Goals as goal

pub returns : goal.returns
returns c = one_answer
