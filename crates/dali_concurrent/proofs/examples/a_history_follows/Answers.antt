use Rattle.dali_concurrent.proofs.Worked.{worked_history}
use Rattle.dali_concurrent.proofs.examples.a_history_follows.Goals as goal

pub returns : goal.returns
returns c = worked_history
