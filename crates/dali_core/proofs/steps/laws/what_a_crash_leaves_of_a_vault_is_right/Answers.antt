use Rattle.dali_core.proofs.StepsLemmas.Steps.{crash_is_right, acknowledged_stands}
use Rattle.dali_core.proofs.steps.laws.what_a_crash_leaves_of_a_vault_is_right.Goals as goal

pub returns : goal.returns
returns g c = record { right = crash_is_right g.V.Store; acknowledged = acknowledged_stands g.V.Store }
