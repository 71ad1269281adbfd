use Rattle.std.specs.Cmp.{nat_cmp_total}
use Rattle.std.specs.FinMap.{nat_cmp-IsAntisymmetric}
use Rattle.dali_att.proofs.Maps.{removed}
use Rattle.dali_system.proofs.promises.take.Goals as goal

pub returns : goal.returns
returns c = removed nat_cmp_total nat_cmp-IsAntisymmetric c.args.each.now.entries c.remove.new.self.entries c.args.txn c.remove.ensures.updates.0
