use Rattle.std.proofs.Common.{refl, subst}
use Rattle.dali_redo.specs.Redoing.{Redoing}
use Rattle.dali_redo.specs.Steps.{Skips, IsCleared}
use Rattle.dali_redo.proofs.Whole.{skips}
use Rattle.dali_redo.proofs.redo.Redo.skip.Goals as goal

pub returns-clause-ok : goal.returns-clause-ok
returns-clause-ok c =
    let y : Redoing = record { sizes = c.self.inside.geometry; image = c.self.inside.image; table = c.skip.new.table; left = c.skip.new.left; next = c.next_behind-self-inside.result } in
    let x : Redoing = record { sizes = c.self.inside.geometry; image = c.self.inside.image; table = c.self.inside.table; left = c.self.inside.left; next = c.self.inside.next } in
    subst (λ z. Skips z y c.args.logged.now) c.self.view_is (skips x y c.args.logged.now refl refl c.in_ok-skip.ensures.table c.in_ok-skip.ensures.left c.next_behind-self-inside.ensures)

pub returns-clause-cleared : goal.returns-clause-cleared
returns-clause-cleared c = subst (λ (z : Redoing). IsCleared z.table → IsCleared c.skip.new.table) c.self.view_is c.in_ok-skip.ensures.cleared
