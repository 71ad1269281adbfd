use Rattle.dali_history.proofs.Survivors.{survivors_in_epochs}
use Rattle.dali_history.proofs.laws.survivors_are_those_of_the_epochs.Goals as goal

pub returns : goal.returns
returns c = survivors_in_epochs
