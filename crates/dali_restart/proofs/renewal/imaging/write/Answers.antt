use Rattle.std.proofs.Common.{length}
use Rattle.dali_restart.proofs.RenewalLemmas.Beside.{only_write}
use Rattle.dali_restart.proofs.renewal.imaging.write.Goals as goal

pub returns-clause-only : goal.returns-clause-only
returns-clause-only g c =
    only_write g.V.Store.told g.V.Store.may_leave g.V.Store.moment g.V.Store.left_since c.args.file c.args.at (length c.args.bytes.now) c.args.store.now c.write_at.new.self g.met.V.Store.only_now
    c.write_at.ensures.torn c.write_at.ensures.crash c.write_at.ensures.time
