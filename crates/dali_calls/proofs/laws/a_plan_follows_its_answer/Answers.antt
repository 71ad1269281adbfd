use Rattle.dali_calls.proofs.Answering.{done_follows}
use Rattle.dali_calls.proofs.laws.a_plan_follows_its_answer.Goals as goal

pub returns : goal.returns
returns c = done_follows
