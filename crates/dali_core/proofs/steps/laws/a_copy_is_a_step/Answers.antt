use Rattle.dali_core.proofs.StepsLemmas.Steps.{copy_goes, copy_faults, skip_goes, write_is_right_in}
use Rattle.dali_core.proofs.steps.laws.a_copy_is_a_step.Goals as goal

pub returns : goal.returns
returns g c = record { ok = copy_goes g.V.Store; skip = skip_goes g.V.Store; fault = copy_faults g.V.Store; inside = write_is_right_in g.V.Store }
