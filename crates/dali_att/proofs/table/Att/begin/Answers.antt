use Rattle.std.proofs.Common.{ap, ◌∙◌}
use Rattle.std.specs.Cmp.{nat_cmp_total}
use Rattle.std.specs.FinMap.{insert, nat_cmp-IsAntisymmetric}
use Rattle.dali_att.specs.Table.{Table}
use Rattle.dali_att.proofs.Maps.{inserted}
use Rattle.dali_att.proofs.table.Att.begin.Goals as goal

pub returns-clause-ok : goal.returns-clause-ok
returns-clause-ok g c =
    inserted nat_cmp_total nat_cmp-IsAntisymmetric c.self.inside.rows.entries c.insert.new.self.entries c.args.txn c.new.result c.in_ok-insert.ensures.updates.0
    ∙ ap (λ (m : Table g.row.U.Denot). insert m c.args.txn c.new.result) c.self.view_is ∙ ap (insert c.args.self.now c.args.txn) c.new.ensures
