use Rattle.dali_crash.proofs.DisksLemmas.Bridges.{restart_starts}
use Rattle.dali_crash.proofs.disks.laws.a_restarted_store_starts.Goals as goal

pub returns : goal.returns
returns g c = λ v. restart_starts (g.V.Store.may_leave v)
