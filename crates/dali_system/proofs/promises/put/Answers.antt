use Rattle.std.specs.Cmp.{nat_cmp_total}
use Rattle.std.specs.FinMap.{nat_cmp-IsAntisymmetric}
use Rattle.dali_att.proofs.Maps.{inserted}
use Rattle.dali_system.proofs.promises.put.Goals as goal

pub returns-clause-ok : goal.returns-clause-ok
returns-clause-ok c = inserted nat_cmp_total nat_cmp-IsAntisymmetric c.args.each.now.entries c.insert.new.self.entries c.args.txn c.args.bytes c.in_ok-insert.ensures.updates.0
