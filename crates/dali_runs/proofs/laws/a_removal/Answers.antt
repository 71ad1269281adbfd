use Rattle.dali_runs.proofs.Removal.{removed}
use Rattle.dali_runs.proofs.laws.a_removal.Goals as goal

pub returns : goal.returns
returns c = removed
