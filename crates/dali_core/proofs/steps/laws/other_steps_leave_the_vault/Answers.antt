use Rattle.dali_core.proofs.StepsLemmas.Steps.{quiet_goes, quiet_keeps}
use Rattle.dali_core.proofs.steps.laws.other_steps_leave_the_vault.Goals as goal

pub returns : goal.returns
returns g c = record { goes = quiet_goes g.V.Store; keeps = quiet_keeps g.V.Store }
