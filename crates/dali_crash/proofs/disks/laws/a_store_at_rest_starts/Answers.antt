use Rattle.dali_crash.proofs.DisksLemmas.Bridges.{store_starts}
use Rattle.dali_crash.proofs.disks.laws.a_store_at_rest_starts.Goals as goal

pub returns : goal.returns
returns g c = λ v. store_starts (g.V.Store.may_leave v)
