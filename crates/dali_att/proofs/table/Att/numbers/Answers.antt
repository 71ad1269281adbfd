use Rattle.std.proofs.Common.{ap, sym, ◌∙◌}
use Rattle.std.specs.Cmp.{nat_cmp_total}
use Rattle.std.specs.FinMap.{keys}
use Rattle.std.specs.Map.{keys_of}
use Rattle.dali_att.specs.Table.{Table}
use Rattle.dali_att.proofs.Maps.{in_order}
use Rattle.dali_att.proofs.Outcomes.{if_ok}
use Rattle.dali_att.proofs.table.Att.numbers.Goals as goal

pub returns : goal.returns
returns g c =
    let listed = sym (ap (λ (m : Table g.row.U.Denot). keys m) (sym c.self.view_is) ∙ ap keys_of (in_order nat_cmp_total c.self.inside.rows.entries c.keys.ensures.ordered)) in
    if_ok c.keys.result (λ ns is. is ∙ listed) c.keys.ensures.keys
