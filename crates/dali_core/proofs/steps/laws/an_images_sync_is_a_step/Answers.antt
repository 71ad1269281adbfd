use Rattle.dali_core.proofs.StepsLemmas.Steps.{sync_goes, sync_faults}
use Rattle.dali_core.proofs.steps.laws.an_images_sync_is_a_step.Goals as goal

pub returns : goal.returns
returns g c = record { ok = sync_goes g.V.Store; fault = sync_faults g.V.Store }
