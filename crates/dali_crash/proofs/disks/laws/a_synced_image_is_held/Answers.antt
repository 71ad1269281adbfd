use Rattle.dali_crash.proofs.DisksLemmas.Images.{sync_holds, held_goes_on}
use Rattle.dali_crash.proofs.disks.laws.a_synced_image_is_held.Goals as goal

pub returns : goal.returns
returns g c = record { sync = λ v. sync_holds (g.V.Store.may_leave v); goes_on = λ v w. held_goes_on (g.V.Store.may_leave v) (g.V.Store.may_leave w) }
