use Rattle.dali_locked.proofs.Acknowledged.{acknowledged_is_held}
use Rattle.dali_locked.proofs.laws.what_was_acknowledged_is_held.Goals as goal

pub returns : goal.returns
returns g c = acknowledged_is_held g.V.Store
