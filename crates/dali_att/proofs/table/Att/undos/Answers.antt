use Rattle.std.proofs.Common.{ap, sym, ◌∙◌}
use Rattle.std.specs.Option.{option_copied}
use Rattle.dali_att.proofs.Rows.{undos_found, undos_absent}
use Rattle.dali_att.proofs.table.Att.undos.Goals as goal

pub returns-in-Some : goal.returns-in-Some
returns-in-Some g c = c.undos.ensures ∙ sym (undos_found _ _ c.self.view_is c.args.txn c.in-Some.row.now (sym c.get.ensures.value ∙ ap option_copied c.in-Some.is))

pub returns-in-None : goal.returns-in-None
returns-in-None g c = sym (undos_absent _ _ c.self.view_is c.args.txn (sym c.get.ensures.value ∙ ap option_copied c.in-None.is))
