use Rattle.dali_served.proofs.Free.{rounds_are_served}
use Rattle.dali_served.proofs.laws.a_free_round_is_served.Goals as goal

pub returns : goal.returns
returns c = rounds_are_served
