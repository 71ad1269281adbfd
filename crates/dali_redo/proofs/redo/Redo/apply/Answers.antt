use Rattle.std.proofs.Common.{refl, ap, subst, length, ◌∙◌}
use Rattle.dali_redo.specs.Redoing.{Redoing}
use Rattle.dali_redo.specs.Steps.{Applies, IsCleared}
use Rattle.dali_redo.proofs.Whole.{applies, applied_undos, as_many, redone_length}
use Rattle.dali_redo.proofs.redo.Redo.apply.Goals as goal

pub invariant_of-self-2 : goal.invariant_of-self-2
invariant_of-self-2 c = record {
  undos = applied_undos c.self.inside.table c.advance.new.table c.self.inside.left c.end_epoch.new.left c.args.logged.now c.requires c.in_ok-advance.ensures.ok c.end_epoch.ensures c.self.invariant.undos;
  regions = as_many c.self.inside.geometry c.self.inside.image c.redo.new.self c.self.invariant.regions (ap length c.redo.ensures ∙ redone_length c.self.inside.image c.args.logged.now);
}

pub returns-clause-ok : goal.returns-clause-ok
returns-clause-ok c =
    let y : Redoing = record { sizes = c.self.inside.geometry; image = c.redo.new.self; table = c.advance.new.table; left = c.end_epoch.new.left; next = c.next_behind-self-inside.result } in
    let x : Redoing = record { sizes = c.self.inside.geometry; image = c.self.inside.image; table = c.self.inside.table; left = c.self.inside.left; next = c.self.inside.next } in
    subst (λ z. Applies z y c.args.logged.now) c.self.view_is (applies x y c.args.logged.now refl c.redo.ensures c.in_ok-advance.ensures.ok c.end_epoch.ensures c.next_behind-self-inside.ensures)

pub returns-clause-cleared : goal.returns-clause-cleared
returns-clause-cleared c = subst (λ (z : Redoing). IsCleared z.table → IsCleared c.advance.new.table) c.self.view_is c.in_ok-advance.ensures.cleared
