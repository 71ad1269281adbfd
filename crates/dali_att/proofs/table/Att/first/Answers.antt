use Rattle.dali_att.proofs.Rows.{first_found}
use Rattle.dali_att.proofs.table.Att.first.Goals as goal

pub returns-in-Some-clause-least : goal.returns-in-Some-clause-least
returns-in-Some-clause-least g c =
    first_found c.self.inside.rows.entries _ c.self.view_is c.in-Some.field-0-0.now c.in-Some.field-0-1.now c.in-Some.ensures.value c.in-Some.ensures.least
