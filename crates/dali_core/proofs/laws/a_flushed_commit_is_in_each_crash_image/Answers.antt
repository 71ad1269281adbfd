use Rattle.dali_core.proofs.Flushing.{committed_stands}
use Rattle.dali_core.proofs.laws.a_flushed_commit_is_in_each_crash_image.Goals as goal

pub returns : goal.returns
returns g c = committed_stands g.V.Store
