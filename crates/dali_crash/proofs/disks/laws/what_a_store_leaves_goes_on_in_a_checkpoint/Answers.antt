use Rattle.dali_crash.proofs.DisksLemmas.Bridges.{write_goes_on, turn_goes_on, turn_fault_goes_on}
use Rattle.dali_crash.proofs.disks.laws.what_a_store_leaves_goes_on_in_a_checkpoint.Goals as goal

pub returns : goal.returns
returns g c = record { write = λ v w. write_goes_on (g.V.Store.may_leave v) (g.V.Store.may_leave w); turn = λ v w. turn_goes_on (g.V.Store.may_leave v) (g.V.Store.may_leave w); turn_fault = λ v w. turn_fault_goes_on (g.V.Store.may_leave v) (g.V.Store.may_leave w) }
