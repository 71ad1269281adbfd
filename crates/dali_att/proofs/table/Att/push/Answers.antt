use Rattle.std.proofs.Common.{ap, sym, ◌∙◌, subst, refl}
use Rattle.std.specs.Prelude.{IsSome}
use Rattle.std.specs.Option.{option_copied_mut}
use Rattle.std.proofs.lemmas.Result.{on_ok_weaker, on_err_weaker}
use Rattle.dali_att.specs.Table.{with_undo}
use Rattle.dali_att.proofs.Rows.{not_absent, written, rewritten}
use Rattle.dali_att.proofs.table.Att.push.Goals as goal

pub unreachable-requires : goal.unreachable-requires
unreachable-requires g c = not_absent _ _ c.self.view_is c.args.txn c.requires.present (sym c.get_mut.ensures.value ∙ ap option_copied_mut c.in-None.is)

pub returns-clause-ok : goal.returns-clause-ok
returns-clause-ok g c =
    let found = sym c.get_mut.ensures.value ∙ ap option_copied_mut c.in-Some.is in
    on_ok_weaker c.push.result (λ new. written _ _ c.self.view_is c.args.txn _ (with_undo c.args.undo) c.in-Some.row.now _ found new ((c.get_mut.follows.holds c.push.new.self).3 (subst IsSome (sym found) refl)).0) c.push.ensures.ok

pub returns-clause-err : goal.returns-clause-err
returns-clause-err g c =
    let found = sym c.get_mut.ensures.value ∙ ap option_copied_mut c.in-Some.is in
    on_err_weaker c.push.result (λ same. rewritten _ _ c.self.view_is c.args.txn _ c.in-Some.row.now _ found same ((c.get_mut.follows.holds c.push.new.self).3 (subst IsSome (sym found) refl)).0) c.push.ensures.err
