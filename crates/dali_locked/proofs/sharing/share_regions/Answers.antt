use Rattle.std.proofs.Common.{◌≡◌, ◌+◌, ℕ, suc, [], ◌∷◌, ◌++◌, Some, length, refl, sym, ap, subst, ◌∙◌, arith}
use Rattle.std.specs.Prelude.{slice_get}
use Rattle.dali_lists.proofs.Lists.{get_front, get_push}
use Rattle.dali_region.specs.State.{RegionState}
use Rattle.dali_notes.specs.History.{AreFresh}
use Rattle.dali_concurrent.specs.Told.{History}
use Rattle.dali_concurrent.specs.Kept.{RegionTold}
use Rattle.dali_locked.specs.Begun.{Led, Of, homed}
use Rattle.dali_locked.proofs.Freshness.{fresh_front, fresh_last, one_shorter}
use Rattle.dali_locked.proofs.sharing.share_regions.Goals as goal

pub new-requires-clause-note : goal.new-requires-clause-note
new-requires-clause-note g c κs within =
    let fresh = subst (AreFresh (homed g.H.Home.table g.B.Beginning.begun).table 0) c.in-Some-pop.ensures.items c.loop-region.invariant.fresh in
    let last = fresh_last (homed g.H.Home.table g.B.Beginning.begun).table 0 c.pop-in-Some.new.self.items c.in-Some-pop.note fresh in
    let notes = one_shorter c.loop-region.list.items c.pop-in-Some.new.self.items c.in-Some-pop.note c.in-Some-pop.ensures.items in
    let regions = one_shorter c.loop-region.regions.items c.pop.new.self.items c.in-Some.region c.in-Some.ensures.items in
    (last.0, omega (arith, last.1, notes, regions))

pub new-requires-clause-led : goal.new-requires-clause-led
new-requires-clause-led g c κs within =
    let fresh = subst (AreFresh (homed g.H.Home.table g.B.Beginning.begun).table 0) c.in-Some-pop.ensures.items c.loop-region.invariant.fresh in
    subst (Led (homed g.H.Home.table g.B.Beginning.begun)) (sym (fresh_last (homed g.H.Home.table g.B.Beginning.begun).table 0 c.pop-in-Some.new.self.items c.in-Some-pop.note fresh).2) c.requires.led

pub new-requires-clause-told : goal.new-requires-clause-told
new-requires-clause-told g c κs within =
    let fresh = subst (AreFresh (homed g.H.Home.table g.B.Beginning.begun).table 0) c.in-Some-pop.ensures.items c.loop-region.invariant.fresh in
    let none = (fresh_last (homed g.H.Home.table g.B.Beginning.begun).table 0 c.pop-in-Some.new.self.items c.in-Some-pop.note fresh).2 in
    let at : slice_get c.loop-region.regions.items (length c.pop.new.self.items) ≡ Some c.in-Some.region =
    ap (λ rs. slice_get rs (length c.pop.new.self.items)) c.in-Some.ensures.items ∙ get_push c.pop.new.self.items c.in-Some.region in
    let number : c.len-number.result ≡ length c.pop.new.self.items = omega arith in
    subst (Of (homed g.H.Home.table g.B.Beginning.begun) (λ o (T : History). RegionTold o c.len-number.result c.in-Some.region T)) (sym none)
    (subst (λ r. Of (homed g.H.Home.table g.B.Beginning.begun) (λ o (T : History). RegionTold o r c.in-Some.region T) []) (sym number)
    (c.loop-region.invariant.told (length c.pop.new.self.items) c.in-Some.region at))

pub new-requires-clause-fresh : goal.new-requires-clause-fresh
new-requires-clause-fresh g c κs within =
    let fresh = subst (AreFresh (homed g.H.Home.table g.B.Beginning.begun).table 0) c.in-Some-pop.ensures.items c.loop-region.invariant.fresh in
    (fresh_last (homed g.H.Home.table g.B.Beginning.begun).table 0 c.pop-in-Some.new.self.items c.in-Some-pop.note fresh).2

pub loop-region-preserved : goal.loop-region-preserved
loop-region-preserved g c =
    let fresh = subst (AreFresh (homed g.H.Home.table g.B.Beginning.begun).table 0) c.in-Some-pop.ensures.items c.loop-region.invariant.fresh in
    let notes = one_shorter c.loop-region.list.items c.pop-in-Some.new.self.items c.in-Some-pop.note c.in-Some-pop.ensures.items in
    let regions = one_shorter c.loop-region.regions.items c.pop.new.self.items c.in-Some.region c.in-Some.ensures.items in
    let i = c.loop-region.invariant in
    record {
      fresh = fresh_front (homed g.H.Home.table g.B.Beginning.begun).table 0 c.pop-in-Some.new.self.items c.in-Some-pop.note fresh;
      each = omega (arith, notes, regions, i.each);
      within = omega (arith, regions, i.within);
      told = λ r h at. i.told r h (ap (λ rs. slice_get rs r) c.in-Some.ensures.items ∙ get_front c.pop.new.self.items (c.in-Some.region ∷ []) r h at);
      room = omega (arith, regions, i.room);
      spare = (c.pop.ensures.capacity ∙ i.spare.0, c.pop-in-Some.ensures.capacity ∙ i.spare.1);
      capacity = c.push_reserved.ensures.capacity ∙ i.capacity;
    }
