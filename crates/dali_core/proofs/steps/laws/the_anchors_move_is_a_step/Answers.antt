use Rattle.dali_core.proofs.StepsLemmas.Steps.{turn_goes, turn_faults, turn_is_right_in}
use Rattle.dali_core.proofs.steps.laws.the_anchors_move_is_a_step.Goals as goal

pub returns : goal.returns
returns g c = record { ok = turn_goes g.V.Store; fault = turn_faults g.V.Store; inside = turn_is_right_in g.V.Store }
