use Rattle.dali_log.proofs.Rows.{some_grown, all_grown}
use Rattle.dali_log.proofs.laws.logs_grow.Goals as goal

pub returns : goal.returns
returns g c = λ L more at old f logs each. record { some = some_grown (g.V.Store.may_leave old) L more at logs each f; all = all_grown (g.V.Store.may_leave old) L more at logs each f }
