use Rattle.dali_core.proofs.StepsLemmas.Steps.{run_begins}
use Rattle.dali_core.proofs.steps.laws.a_run_begins.Goals as goal

pub returns : goal.returns
returns g c = run_begins g.V.Store
