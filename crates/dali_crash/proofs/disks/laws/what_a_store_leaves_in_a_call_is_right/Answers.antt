use Rattle.dali_crash.proofs.DisksLemmas.Bridges.{moments_are_right}
use Rattle.dali_crash.proofs.disks.laws.what_a_store_leaves_in_a_call_is_right.Goals as goal

pub returns : goal.returns
returns g c = λ v t. moments_are_right (g.V.Store.left_since v t)
