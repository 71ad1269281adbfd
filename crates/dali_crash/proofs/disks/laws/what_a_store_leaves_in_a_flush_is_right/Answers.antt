use Rattle.dali_crash.proofs.DisksLemmas.Bridges.{flush_is_right, write_is_right}
use Rattle.dali_crash.proofs.disks.laws.what_a_store_leaves_in_a_flush_is_right.Goals as goal

pub returns : goal.returns
returns g c = record { flush = λ v. flush_is_right (g.V.Store.may_leave v); write = λ v. write_is_right (g.V.Store.may_leave v) }
