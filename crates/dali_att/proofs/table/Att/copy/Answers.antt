use Rattle.std.proofs.Common.{◌∙◌, ap}
use Rattle.std.specs.FinMap.{from_entries}
use Rattle.std.specs.Ordering.{nat_cmp}
use Rattle.dali_att.proofs.table.Att.copy.Goals as goal

pub returns : goal.returns
returns g c = ap (λ es. from_entries {R = nat_cmp} es) c.in_ok-copy_rows.ensures ∙ c.self.view_is
