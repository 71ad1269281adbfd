use Rattle.dali_restart.proofs.RiseLemmas.Behind.{begins_behind}
use Rattle.dali_restart.proofs.rise.laws.a_run_begins_behind_a_renewal.Goals as goal

pub returns : goal.returns
returns g c = begins_behind g.V.Store
