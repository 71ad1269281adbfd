use Rattle.std.proofs.Common.{◌≡◌, [], ◌∷◌, refl, ap, sym, subst, ◌∙◌}
use Rattle.dali_region.specs.State.{RegionState, poked}
use Rattle.dali_lists.proofs.Lists.{get_set}
use Rattle.dali_notes.specs.History.{Sight, Added}
use Rattle.dali_system.specs.UnderWay.{OneIsUnderWay}
use Rattle.dali_concurrent.specs.Entries.{client_note, region_note}
use Rattle.dali_concurrent.specs.Told.{Item}
use Rattle.dali_locked.specs.Sights.{ClientSight, RegionSight, client_sight, region_sight}
use Rattle.dali_locked.specs.Regions.{stray_item}
use Rattle.dali_locked.proofs.RegionSigns.{signs_pair}
use Rattle.dali_locked.proofs.RegionOps.{under_way_poked, uncounted}
use Rattle.dali_locked.proofs.RegionAdding.{led_on, client_is, region_is, may_of, added_of, kept_of, kept_stays}
use Rattle.dali_locked.proofs.RegionMay.{stray_may}
use Rattle.dali_locked.proofs.region.LockedRegion.poke.Given as given
use Rattle.dali_locked.specs.Begun.{homed}
use Rattle.dali_locked.proofs.region.LockedRegion.poke.Goals as goal
use Rattle.dali_locked.proofs.region.LockedRegion.poke.Goals.{After-poke, After-tell_both}

abbrev x : (g : given.Over) → After-tell_both g → RegionSight
x g c = record { number = c.self.inside.number; steps = c.self.inside.steps; audits = c.self.inside.audits; region = c.self.inside.region; seen = c.self.inside.note.seen }

pub tell_both-requires-clause-may : goal.tell_both-requires-clause-may
tell_both-requires-clause-may g c κs within =
    let b = (homed g.H.Home.table g.B.Beginning.begun) in
    let s = c.self.inside in
    let x : RegionSight = record { number = s.number; steps = s.steps; audits = s.audits; region = s.region; seen = s.note.seen } in
    let client : ClientSight = record { id = c.client.inside.id; seen = c.client.inside.note.seen } in
    let told : stray_item client.id x.number c.args.word c.args.mask c.poke.new.self ≡ stray_item client.id x.number c.args.word c.args.mask (poked c.args.word c.args.mask x.region) =
    ap (stray_item client.id x.number c.args.word c.args.mask) c.poke.ensures.after in
    may_of b c.client.inside.note s.note (client_sight b client) (region_sight b x) _ _ (client_is b c.client.inside.note client.id c.client.invariant.0 c.client.invariant.1) (region_is b s.note x c.self.invariant refl) told
    (stray_may b s.note.table s.note.number x c.self.invariant client c.args.word c.args.mask c.requires.in_range c.requires.changes c.ranges.mask.fits)

pub invariant_of-client : goal.invariant_of-client
invariant_of-client g c =
    (c.tell_both.ensures.table ∙ c.client.invariant.0, c.tell_both.ensures.number ∙ c.client.invariant.1, led_on (homed g.H.Home.table g.B.Beginning.begun) c.client.inside.note.seen c.tell_both.new.client.seen c.client.invariant.2 c.tell_both.ensures.all)

-- in words of what contracts see
told : (g : given.Over) (c : After-tell_both g) → Added
    (client_sight (homed g.H.Home.table g.B.Beginning.begun) (record { id = c.client.inside.id; seen = c.client.inside.note.seen }) ∷ region_sight (homed g.H.Home.table g.B.Beginning.begun) (x g c) ∷ [])
    (stray_item c.client.inside.id c.self.inside.number c.args.word c.args.mask c.poke.new.self) c.tell_both.new.client.seen
told g c =
    let b = (homed g.H.Home.table g.B.Beginning.begun) in
    let s = c.self.inside in
    added_of c.client.inside.note s.note _ _ _ _ c.tell_both.new.client.seen (client_is b c.client.inside.note c.client.inside.id c.client.invariant.0 c.client.invariant.1) (region_is b s.note (x g c) c.self.invariant refl)
    refl
    c.tell_both.ensures.added

pub invariant_of-self : goal.invariant_of-self
invariant_of-self g c =
    let b = (homed g.H.Home.table g.B.Beginning.begun) in
    let s = c.self.inside in
    let client : ClientSight = record { id = c.client.inside.id; seen = c.client.inside.note.seen } in
    kept_of b s.note c.tell_both.new.note (record { number = s.number; steps = s.steps; audits = s.audits; region = c.poke.new.self; seen = c.tell_both.new.client.seen }) c.tell_both.ensures.other
    (kept_stays b client s.note.table s.note.number (x g c) c.self.invariant c.poke.new.self (stray_item client.id s.number c.args.word c.args.mask c.poke.new.self) c.tell_both.new.client.seen (told g c) c.tell_both.ensures.all
    (λ k at. get_set k.regions s.number s.region c.poke.new.self at) (λ n right e. absurd (cc)) (uncounted s.number (client_note b.count client.id ∷ region_note s.number ∷ []) (stray_item client.id s.number c.args.word c.args.mask c.poke.new.self) (signs_pair (client_note b.count client.id) s.number) refl) (λ o way. subst (OneIsUnderWay o) (sym c.poke.ensures.after) (under_way_poked c.args.word c.args.mask s.region o way)))

pub returns-clause-tells : goal.returns-clause-tells
returns-clause-tells g c =
    let b = (homed g.H.Home.table g.B.Beginning.begun) in
    subst (λ (z : ClientSight). Added (client_sight b z ∷ region_sight b c.args.self.now ∷ []) (stray_item z.id c.args.self.now.number c.args.word c.args.mask c.poke.new.self) c.tell_both.new.client.seen) c.client.view_is
    (subst (λ (z : RegionSight). Added (client_sight b (record { id = c.client.inside.id; seen = c.client.inside.note.seen }) ∷ region_sight b z ∷ []) (stray_item c.client.inside.id z.number c.args.word c.args.mask c.poke.new.self) c.tell_both.new.client.seen)
    c.self.view_is (told g c))
