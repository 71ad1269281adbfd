use Rattle.dali_run.proofs.Going.{crash_restarts}
use Rattle.dali_run.proofs.chains.a_crash_restarts.Goals as goal

pub returns : goal.returns
returns g c = crash_restarts g.V.Store
