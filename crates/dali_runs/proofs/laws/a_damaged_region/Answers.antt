use Rattle.dali_runs.proofs.Damage.{was_damaged}
use Rattle.dali_runs.proofs.laws.a_damaged_region.Goals as goal

pub returns : goal.returns
returns c = was_damaged
