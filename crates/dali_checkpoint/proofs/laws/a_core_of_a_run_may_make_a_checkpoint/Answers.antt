use Rattle.dali_checkpoint.proofs.Idle.{end_is_far}
use Rattle.dali_checkpoint.proofs.laws.a_core_of_a_run_may_make_a_checkpoint.Goals as goal

pub returns : goal.returns
returns g c = end_is_far g.V.Store
