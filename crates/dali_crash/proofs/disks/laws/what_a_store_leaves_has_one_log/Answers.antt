use Rattle.dali_crash.proofs.DisksLemmas.Bridges.{have_one_log, have_one_anchor}
use Rattle.dali_crash.proofs.disks.laws.what_a_store_leaves_has_one_log.Goals as goal

pub returns : goal.returns
returns g c = record { log = λ v. have_one_log (g.V.Store.may_leave v); anchor = λ v. have_one_anchor (g.V.Store.may_leave v) }
