use Rattle.std.proofs.Common.{◌≡◌, ◌+◌, Err, true, false, [], ◌∷◌, Some, None, IfSome, IsSome, IsSomeAnd, refl, ap, sym, subst, ◌∙◌}
use Rattle.dali_lists.proofs.Lists.{get_set}
use Rattle.dali_system.specs.UnderWay.{IsUnderWay}
use Rattle.dali_system.proofs.UnderWays.{latched_unheld}
use Rattle.dali_region.specs.State.{RegionState, latched, with_reads, touched, taken_back}
use Rattle.dali_system.specs.declared.take_back.TakeBack.{TakeBack}
use Rattle.dali_system.specs.TakenBack.{next_undo, IsUndoBlock}
use Rattle.dali_notes.specs.History.{IsSeen, Added, Sight}
use Rattle.dali_concurrent.specs.Entries.{client_note, region_note}
use Rattle.dali_concurrent.specs.Told.{Item, History}
use Rattle.dali_locked.specs.Begun.{outset, Of, homed}
use Rattle.dali_locked.specs.Sights.{ClientSight, RegionSight, Knows, client_sight, region_sight}
use Rattle.dali_locked.specs.Regions.{RegionKept, IsAt, latch_item}
use Rattle.dali_locked.specs.Undoing.{HasUndos, IsOwn, Undoes, IsUndoing}
use Rattle.dali_locked.proofs.RegionSigns.{signs_pair}
use Rattle.dali_locked.proofs.RegionOps.{counted}
use Rattle.dali_locked.proofs.RegionAdding.{led_on, client_is, region_is, may_of, added_of, kept_of, kept_next, next_at}
use Rattle.dali_locked.proofs.RegionMay.{latch_may}
use Rattle.dali_locked.proofs.Standing.{latched_stands_known}
use Rattle.dali_locked.proofs.OwnOperation.{own_opening, own_opened, own_if}
use Rattle.dali_locked.proofs.RegionUndo.{undo_few, undo_here, undo_item_is, undo_there}
use Rattle.dali_locked.proofs.region.LockedRegion.latch_undo_as.Given as given
use Rattle.dali_locked.proofs.region.LockedRegion.latch_undo_as.Goals as goal
use Rattle.dali_locked.proofs.region.LockedRegion.latch_undo_as.Goals.{After-self-1}

pub add_both-requires-clause-may : goal.add_both-requires-clause-may
add_both-requires-clause-may g c κs within =
    let b = (homed g.H.Home.table g.B.Beginning.begun) in
    let s = c.self.inside in
    let p = c.args.plan.now in
    let client : ClientSight = record { id = c.client.inside.id; seen = c.client.inside.note.seen } in
    let x : RegionSight = record { number = s.number; steps = s.steps; audits = s.audits; region = s.region; seen = s.note.seen } in
    let told : g.D.RegionItem.item c.latch.new.region ≡ latch_item client.id x.number p.txn c.latch.new.region =
    ap (λ (f : RegionState → Item). f c.latch.new.region) c.requires.item
    ∙ (ap (λ (z : ClientSight). latch_item z.id c.args.self.now.number p.txn c.latch.new.region) (sym c.client.view_is)
    ∙ ap (λ (z : RegionSight). latch_item client.id z.number p.txn c.latch.new.region) (sym c.self.view_is)) in
    let at : Knows b (Undoes client.id p) client = subst (λ (z : ClientSight). Knows b (Undoes z.id p) z) (sym c.client.view_is) c.requires.undoes in
    let o = own_opening p.txn (IsUndoBlock p.next) (undo_few p.next) c.latch.new.self.operation s.region c.latch.new.region c.in-Ok.ensures.made in
    may_of b c.client.inside.note s.note (client_sight b client) (region_sight b x) _ _ (client_is b c.client.inside.note client.id c.client.invariant.0 c.client.invariant.1) (region_is b s.note x c.self.invariant refl) told
    (latch_may b s.note.table s.note.number x c.self.invariant client p.txn o.mask c.latch.new.region (λ u q each. (at u q each).stands.tends) (latched_unheld false s.region c.in-Ok.ensures.answer) o.fits o.is)

pub invariant_of-self : goal.invariant_of-self
invariant_of-self g c =
    let s = c.self.inside in
    subst (λ (h : RegionState). RegionKept (homed g.H.Home.table g.B.Beginning.begun) s.note.table s.note.number (record { number = s.number; steps = s.steps; audits = s.audits; region = h; seen = s.note.seen })) (sym c.in-Err.ensures.refused.1) c.self.invariant

pub invariant_of-client : goal.invariant_of-client
invariant_of-client g c =
    (c.add_both.ensures.table ∙ c.client.invariant.0, c.add_both.ensures.number ∙ c.client.invariant.1, led_on (homed g.H.Home.table g.B.Beginning.begun) c.client.inside.note.seen c.add_both.new.note.seen c.client.invariant.2 c.add_both.ensures.all)

told : (g : given.Over) (c : After-self-1 g) → Added
    (client_sight (homed g.H.Home.table g.B.Beginning.begun) (record { id = c.client.inside.id; seen = c.client.inside.note.seen })
    ∷ region_sight (homed g.H.Home.table g.B.Beginning.begun) (record { number = c.self.inside.number; steps = c.self.inside.steps; audits = c.self.inside.audits; region = c.self.inside.region; seen = c.self.inside.note.seen }) ∷ [])
    (latch_item c.client.inside.id c.self.inside.number c.args.plan.now.txn c.latch.new.region) c.add_both.new.note.seen
told g c =
    let b = (homed g.H.Home.table g.B.Beginning.begun) in
    let s = c.self.inside in
    let p = c.args.plan.now in
    let x : RegionSight = record { number = s.number; steps = s.steps; audits = s.audits; region = s.region; seen = s.note.seen } in
    added_of c.client.inside.note s.note _ _ _ _ c.add_both.new.note.seen (client_is b c.client.inside.note c.client.inside.id c.client.invariant.0 c.client.invariant.1) (region_is b s.note x c.self.invariant refl)
    (ap (λ (f : RegionState → Item). f c.latch.new.region) c.requires.item
    ∙ (ap (λ (z : ClientSight). latch_item z.id c.args.self.now.number p.txn c.latch.new.region) (sym c.client.view_is)
    ∙ ap (λ (z : RegionSight). latch_item c.client.inside.id z.number p.txn c.latch.new.region) (sym c.self.view_is)))
    c.add_both.ensures.added

pub invariant_of-self-2 : goal.invariant_of-self-2
invariant_of-self-2 g c =
    let b = (homed g.H.Home.table g.B.Beginning.begun) in
    let s = c.self.inside in
    let client : ClientSight = record { id = c.client.inside.id; seen = c.client.inside.note.seen } in
    let x : RegionSight = record { number = s.number; steps = s.steps; audits = s.audits; region = s.region; seen = s.note.seen } in
    let item = latch_item client.id s.number c.args.plan.now.txn c.latch.new.region in
    kept_of b s.note c.add_both.new.other (record { number = s.number; steps = s.steps + 1; audits = s.audits; region = c.latch.new.region; seen = c.add_both.new.note.seen }) c.add_both.ensures.other
    (kept_next b client s.note.table s.note.number x c.self.invariant c.latch.new.region item c.add_both.new.note.seen (told g c) c.add_both.ensures.all
    (λ k at. get_set k.regions s.number s.region c.latch.new.region at) (λ n right e. absurd (cc))
    (counted s.number (client_note b.count client.id ∷ region_note s.number ∷ []) item c.latch.new.region (signs_pair (client_note b.count client.id) s.number) refl refl))

pub returns-clause-made : goal.returns-clause-made
returns-clause-made g c =
    let p = c.args.plan.now in
    subst (λ (z : RegionSight). IsSomeAnd c.latch.new.self.operation (λ o. (o.txn ≡ p.txn) × IsUndoBlock p.next o.block × (c.latch.new.region ≡ with_reads o.block.read (latched p.txn z.region)))) c.self.view_is
    (own_opened p.txn (IsUndoBlock p.next) c.latch.new.self.operation c.self.inside.region c.latch.new.region c.in-Ok.ensures.made)

pub returns-clause-own : goal.returns-clause-own
returns-clause-own g c =
    let p = c.args.plan.now in
    let op = c.latch.new.self.operation in
    subst (λ (z : TakeBack). IsOwn z op) (sym c.latch.ensures.same)
    (own_if p.txn (IsUndoBlock p.next) op (λ o. IsUnderWay o.txn o.block o.left o.taken c.latch.new.region) (λ o. c.latch.new.region ≡ with_reads o.block.read (latched p.txn c.self.inside.region)) c.in-Ok.ensures.made)

pub returns-clause-tells : goal.returns-clause-tells
returns-clause-tells g c =
    let b = (homed g.H.Home.table g.B.Beginning.begun) in
    let t = c.args.plan.now.txn in
    subst (λ (z : ClientSight). Added (client_sight b z ∷ region_sight b c.args.self.now ∷ []) (latch_item z.id c.args.self.now.number t c.latch.new.region) c.add_both.new.note.seen) c.client.view_is
    (subst (λ (z : RegionSight). Added (client_sight b (record { id = c.client.inside.id; seen = c.client.inside.note.seen }) ∷ region_sight b z ∷ []) (latch_item c.client.inside.id z.number t c.latch.new.region) c.add_both.new.note.seen)
    c.self.view_is (told g c))

pub returns-clause-at : goal.returns-clause-at
returns-clause-at g c =
    let b = (homed g.H.Home.table g.B.Beginning.begun) in
    let s = c.self.inside in
    let p = c.args.plan.now in
    let client : ClientSight = record { id = c.client.inside.id; seen = c.client.inside.note.seen } in
    let x : RegionSight = record { number = s.number; steps = s.steps; audits = s.audits; region = s.region; seen = s.note.seen } in
    let item = latch_item client.id s.number p.txn c.latch.new.region in
    let o = own_opening p.txn (IsUndoBlock p.next) (undo_few p.next) c.latch.new.self.operation s.region c.latch.new.region c.in-Ok.ensures.made in (
      refl,
      subst (λ (z : RegionSight). IsAt z.number (s.steps + 1) c.latch.new.self.operation c.add_both.new.note.seen) c.self.view_is
          (next_at b client s.note.table s.note.number x c.self.invariant c.latch.new.region item c.add_both.new.note.seen (told g c) c.add_both.ensures.all
          (λ k at. get_set k.regions s.number s.region c.latch.new.region at) (λ n right e. absurd (cc)) c.latch.new.self.operation
          (counted s.number (client_note b.count client.id ∷ region_note s.number ∷ []) item c.latch.new.region (signs_pair (client_note b.count client.id) s.number) refl refl) o.under_way),
    )

pub returns-clause-undoing : goal.returns-clause-undoing
returns-clause-undoing g c =
    let b = (homed g.H.Home.table g.B.Beginning.begun) in
    let s = c.self.inside in
    let p = c.args.plan.now in
    let client : ClientSight = record { id = c.client.inside.id; seen = c.client.inside.note.seen } in
    let x : RegionSight = record { number = s.number; steps = s.steps; audits = s.audits; region = s.region; seen = s.note.seen } in
    let at : Knows b (Undoes client.id p) client = subst (λ (z : ClientSight). Knows b (Undoes z.id p) z) (sym c.client.view_is) c.requires.undoes in
    let amid : Of b (IsUndoing client.id x.number p) c.add_both.new.note.seen =
    latched_stands_known b client s.note.table s.note.number x c.self.invariant p.txn (HasUndos p.next p.down_to) c.latch.new.region c.add_both.new.note.seen at (told g c) c.add_both.ensures.all in
    subst (λ (z : TakeBack). Of b (IsUndoing c.args.client.now.id c.args.self.now.number z) c.add_both.new.note.seen) (sym c.latch.ensures.same)
    (subst (λ (z : ClientSight). Of b (IsUndoing z.id c.args.self.now.number p) c.add_both.new.note.seen) c.client.view_is
    (subst (λ (z : RegionSight). Of b (IsUndoing client.id z.number p) c.add_both.new.note.seen) c.self.view_is amid))
