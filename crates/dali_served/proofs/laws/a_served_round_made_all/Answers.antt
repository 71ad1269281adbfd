use Rattle.dali_served.proofs.Law.{served_rounds}
use Rattle.dali_served.proofs.laws.a_served_round_made_all.Goals as goal

pub returns : goal.returns
returns c = served_rounds
