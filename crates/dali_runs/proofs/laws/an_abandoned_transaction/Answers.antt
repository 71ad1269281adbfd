use Rattle.dali_runs.proofs.Abandoned.{was_abandoned}
use Rattle.dali_runs.proofs.laws.an_abandoned_transaction.Goals as goal

pub returns : goal.returns
returns c = was_abandoned
