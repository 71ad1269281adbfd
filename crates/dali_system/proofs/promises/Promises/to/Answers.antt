use Rattle.std.proofs.Common.{ap, sym, ◌∙◌}
use Rattle.std.specs.Option.{option_copied}
use Rattle.dali_system.proofs.Totals.{read}
use Rattle.dali_system.proofs.promises.Promises.to.Goals as goal

pub returns-in-Some : goal.returns-in-Some
returns-in-Some c = sym (read c.self.inside.each.entries c.args.txn _ c.self.view_is _ (sym c.get.ensures.value ∙ ap option_copied c.in-Some.is))

pub returns-in-None : goal.returns-in-None
returns-in-None c = sym (read c.self.inside.each.entries c.args.txn _ c.self.view_is _ (sym c.get.ensures.value ∙ ap option_copied c.in-None.is))
