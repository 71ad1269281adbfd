use Rattle.dali_run.proofs.Made.{format_begins}
use Rattle.dali_run.proofs.chains.a_format_begins.Goals as goal

pub returns : goal.returns
returns g c = format_begins g.V.Store
