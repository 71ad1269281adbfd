use Rattle.dali_checkpoint.proofs.Idle.{points_tell, ends_idle}
use Rattle.dali_checkpoint.proofs.laws.a_checkpoint_that_ended_leaves_none_under_way.Goals as goal

pub returns : goal.returns
returns g c = record { told = points_tell g.V.Store; ends = ends_idle g.V.Store }
