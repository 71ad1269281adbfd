use Rattle.std.proofs.Common.{ap, sym, ◌∙◌}
use Rattle.std.specs.Prelude.{Some, None}
use Rattle.std.specs.Option.{option_copied}
use Rattle.dali_att.proofs.Rows.{state_found}
use Rattle.dali_att.proofs.table.Att.state.Goals as goal

pub returns-in-Some : goal.returns-in-Some
returns-in-Some g c = ap Some c.state.ensures ∙ sym (state_found _ _ c.self.view_is c.args.txn (Some c.in-Some.row.now) (sym c.get.ensures.value ∙ ap option_copied c.in-Some.is))

pub returns-in-None : goal.returns-in-None
returns-in-None g c = sym (state_found _ _ c.self.view_is c.args.txn None (sym c.get.ensures.value ∙ ap option_copied c.in-None.is))
