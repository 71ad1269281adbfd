use Rattle.dali_crash.proofs.DisksLemmas.Bridges.{format_starts}
use Rattle.dali_crash.proofs.disks.laws.a_formatted_store_starts.Goals as goal

pub returns : goal.returns
returns g c = λ v w. format_starts (g.V.Store.may_leave v) (g.V.Store.may_leave w)
