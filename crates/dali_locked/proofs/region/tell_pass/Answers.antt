use Rattle.std.proofs.Common.{◌≡◌, [], ◌∷◌, ap, sym, subst, ◌∙◌}
use Rattle.dali_region.specs.State.{RegionState}
use Rattle.dali_notes.specs.History.{MayAdd}
use Rattle.dali_concurrent.specs.Told.{Item}
use Rattle.dali_locked.specs.Begun.{may_add}
use Rattle.dali_locked.specs.Regions.{pass_item}
use Rattle.dali_locked.proofs.region.tell_pass.Goals as goal

pub add-requires-clause-may : goal.add-requires-clause-may
add-requires-clause-may g c κs within =
    let is : g.D.RegionItem.item c.args.after.now ≡ pass_item c.args.number c.args.begin c.args.right c.args.after.now = ap (λ (f : RegionState → Item). f c.args.after.now) c.requires.item in
    subst (λ (i : Item). MayAdd (may_add g.B.Beginning.begun) (c.args.note.now ∷ []) i) (sym is) c.requires.may
