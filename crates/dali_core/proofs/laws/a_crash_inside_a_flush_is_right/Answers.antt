use Rattle.dali_core.proofs.Moments.{flush_right}
use Rattle.dali_core.proofs.laws.a_crash_inside_a_flush_is_right.Goals as goal

pub returns : goal.returns
returns g c = flush_right g.V.Store
