use Rattle.dali_log.proofs.Rows.{appends}
use Rattle.dali_log.proofs.laws.appends_go_on.Goals as goal

pub returns : goal.returns
returns g c = appends g.V.Store.moment g.V.Store.left_since g.V.Store.may_leave
