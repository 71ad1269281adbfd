use Rattle.dali_turns.proofs.Staying.{others_fit}
use Rattle.dali_turns.proofs.laws.a_step_leaves_the_others.Goals as goal

pub returns : goal.returns
returns g c = others_fit g.V.Store
