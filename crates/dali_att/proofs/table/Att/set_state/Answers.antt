use Rattle.std.proofs.Common.{ap, sym, ◌∙◌, subst, refl}
use Rattle.std.specs.Prelude.{IsSome}
use Rattle.std.specs.Option.{option_copied_mut}
use Rattle.dali_att.specs.Table.{with_state}
use Rattle.dali_att.proofs.Rows.{not_absent, written}
use Rattle.dali_att.proofs.table.Att.set_state.Goals as goal

pub unreachable-requires : goal.unreachable-requires
unreachable-requires g c = not_absent _ _ c.self.view_is c.args.txn c.requires.present (sym c.get_mut.ensures.value ∙ ap option_copied_mut c.in-None.is)

pub returns : goal.returns
returns g c =
    let found = sym c.get_mut.ensures.value ∙ ap option_copied_mut c.in-Some.is in
    written _ _ c.self.view_is c.args.txn _ (with_state c.args.state) c.in-Some.row.now _ found c.set_state.ensures ((c.get_mut.follows.holds c.set_state.new.self).3 (subst IsSome (sym found) refl)).0
