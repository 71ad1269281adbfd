use Rattle.std.proofs.Common.{ap, sym, ◌∙◌, subst, refl}
use Rattle.std.specs.Prelude.{IsSome}
use Rattle.std.specs.Option.{option_copied_mut}
use Rattle.dali_att.specs.Table.{without_undos}
use Rattle.dali_att.proofs.Rows.{written, unwritten}
use Rattle.dali_att.proofs.table.Att.clear.Goals.{in-Some, in-None}
use Rattle.dali_att.proofs.table.Att.clear.Goals as goal

pub returns : goal.returns
returns g c = elim c.match-get_mut.branch [
  | in-Some w ↦
      let found = sym c.get_mut.ensures.value ∙ ap option_copied_mut w.in-Some.is in
      rw w.self-inside-is (written _ _ c.self.view_is c.args.txn _ without_undos w.in-Some.row.now _ found w.clear.ensures ((c.get_mut.follows.holds w.clear.new.self).3 (subst IsSome (sym found) refl)).0)
  | in-None w ↦
      let none = sym c.get_mut.ensures.value ∙ ap option_copied_mut w.in-None.is in
      rw (w.self-inside-is, c.get_mut.follows.holds-at-none) (unwritten _ _ c.self.view_is c.args.txn without_undos none)
]
