use Rattle.dali_history.proofs.Prefixes.{IsHistory-front}
use Rattle.dali_history.proofs.laws.the_front_of_a_history_is_one.Goals as goal

pub returns : goal.returns
returns c = IsHistory-front
