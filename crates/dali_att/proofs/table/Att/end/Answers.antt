use Rattle.std.proofs.Common.{ap, ◌∙◌}
use Rattle.std.specs.Cmp.{nat_cmp_total}
use Rattle.std.specs.FinMap.{remove, nat_cmp-IsAntisymmetric}
use Rattle.dali_att.specs.Table.{Table}
use Rattle.dali_att.proofs.Maps.{removed}
use Rattle.dali_att.proofs.table.Att.end.Goals as goal

pub returns : goal.returns
returns g c =
    removed nat_cmp_total nat_cmp-IsAntisymmetric c.self.inside.rows.entries c.remove.new.self.entries c.args.txn c.remove.ensures.updates.0
    ∙ ap (λ (m : Table g.row.U.Denot). remove m c.args.txn) c.self.view_is
