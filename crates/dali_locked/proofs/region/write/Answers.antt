use Rattle.std.proofs.Common.{◌≡◌, [], ◌∷◌, ap, sym, subst}
use Rattle.dali_region.specs.State.{RegionState}
use Rattle.dali_notes.specs.History.{Added, MayAdd}
use Rattle.dali_concurrent.specs.Told.{Item}
use Rattle.dali_locked.specs.Begun.{may_add}
use Rattle.dali_locked.proofs.RegionKnows.{writes_one}
use Rattle.dali_locked.proofs.region.write.Goals as goal

pub add_both-requires-clause-may : goal.add_both-requires-clause-may
add_both-requires-clause-may g c κs within =
    let h = c.update.new.region in
    let o = c.update.new.self.operation in
    subst (λ (i : Item). MayAdd (may_add g.B.Beginning.begun) (c.args.client.now ∷ c.args.note.now ∷ []) i) (sym (ap (λ (f : RegionState → Item). f h) c.requires.item))
    (c.requires.may h o (writes_one c.args.plan.now.operation c.args.region.now c.update.result o h c.requires.under_way c.requires.left c.update.ensures.writes))

pub returns-clause-writes : goal.returns-clause-writes
returns-clause-writes g c = writes_one c.args.plan.now.operation c.args.region.now c.update.result c.update.new.self.operation c.update.new.region c.requires.under_way c.requires.left c.update.ensures.writes

pub returns-clause-added : goal.returns-clause-added
returns-clause-added g c = subst (λ (i : Item). Added (c.args.client.now ∷ c.args.note.now ∷ []) i c.add_both.new.note.seen) (ap (λ (f : RegionState → Item). f c.update.new.region) c.requires.item) c.add_both.ensures.added
