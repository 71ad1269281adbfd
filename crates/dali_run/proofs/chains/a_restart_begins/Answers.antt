use Rattle.dali_run.proofs.Made.{restart_begins}
use Rattle.dali_run.proofs.chains.a_restart_begins.Goals as goal

pub returns : goal.returns
returns g c = restart_begins g.V.Store
