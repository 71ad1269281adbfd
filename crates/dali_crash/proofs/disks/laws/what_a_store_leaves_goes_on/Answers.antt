use Rattle.dali_crash.proofs.DisksLemmas.Bridges.{flush_goes_on, fault_goes_on, quiet_goes_on}
use Rattle.dali_crash.proofs.disks.laws.what_a_store_leaves_goes_on.Goals as goal

pub returns : goal.returns
returns g c = record { flush = λ v w. flush_goes_on (g.V.Store.may_leave v) (g.V.Store.may_leave w); fault = λ v w. fault_goes_on (g.V.Store.may_leave v) (g.V.Store.may_leave w); quiet = λ v w. quiet_goes_on (g.V.Store.may_leave v) (g.V.Store.may_leave w) }
