use Rattle.dali_served.proofs.Unclaimed.{none_is_claimed}
use Rattle.dali_served.proofs.laws.without_a_death_none_is_claimed.Goals as goal

pub returns : goal.returns
returns c = none_is_claimed
