use Rattle.dali_arguments.proofs.Asked.{asked_means_none}
use Rattle.dali_arguments.proofs.laws.questions_mean_no_task.Goals as goal

pub returns : goal.returns
returns c = asked_means_none
