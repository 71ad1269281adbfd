use Rattle.std.proofs.Common.{ap, sym, ◌∙◌, subst, refl}
use Rattle.std.specs.Prelude.{IsSome}
use Rattle.std.specs.Option.{option_copied_mut}
use Rattle.dali_att.specs.Table.{without_last, last_of}
use Rattle.dali_att.proofs.Rows.{undos_found, undos_absent, written, unwritten}
use Rattle.dali_att.proofs.table.Att.pop.Goals.{in-Some, in-None}
use Rattle.dali_att.proofs.table.Att.pop.Goals as goal

pub returns-clause-last : goal.returns-clause-last
returns-clause-last g c = elim c.match-get_mut.branch [
  | in-Some w ↦ w.result-is ∙ w.pop.ensures.last ∙ sym (ap last_of (undos_found _ _ c.self.view_is c.args.txn w.in-Some.row.now (sym c.get_mut.ensures.value ∙ ap option_copied_mut w.in-Some.is)))
  | in-None w ↦ w.result-is ∙ sym (ap last_of (undos_absent _ _ c.self.view_is c.args.txn (sym c.get_mut.ensures.value ∙ ap option_copied_mut w.in-None.is)))
]

pub returns-clause-rest : goal.returns-clause-rest
returns-clause-rest g c = elim c.match-get_mut.branch [
  | in-Some w ↦
      let found = sym c.get_mut.ensures.value ∙ ap option_copied_mut w.in-Some.is in
      rw w.self-inside-is (written _ _ c.self.view_is c.args.txn _ without_last w.in-Some.row.now _ found w.pop.ensures.rest ((c.get_mut.follows.holds w.pop.new.self).3 (subst IsSome (sym found) refl)).0)
  | in-None w ↦
      let none = sym c.get_mut.ensures.value ∙ ap option_copied_mut w.in-None.is in
      rw (w.self-inside-is, c.get_mut.follows.holds-at-none) (unwritten _ _ c.self.view_is c.args.txn without_last none)
]
