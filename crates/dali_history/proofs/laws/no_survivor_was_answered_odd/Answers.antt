use Rattle.dali_history.proofs.NoOdd.{survivors_have_no_odd}
use Rattle.dali_history.proofs.laws.no_survivor_was_answered_odd.Goals as goal

pub returns : goal.returns
returns c = survivors_have_no_odd
