use Rattle.dali_crash.proofs.DisksLemmas.Bridges.{are_right, is_right_now}
use Rattle.dali_crash.proofs.disks.laws.what_a_store_leaves_is_right.Goals as goal

pub returns : goal.returns
returns g c = record { each = λ v. are_right (g.V.Store.may_leave v); some = λ v. is_right_now (g.V.Store.told v) (g.V.Store.may_leave v) (g.met.V.Store.reads_now v) }
