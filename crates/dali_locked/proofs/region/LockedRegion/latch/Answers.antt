use Rattle.std.proofs.Common.{◌≡◌, ◌+◌, [], ◌∷◌, not, ◌&&◌, IsSomeAnd, refl, ap, sym, subst, ◌∙◌}
use Rattle.dali_lists.proofs.Lists.{get_set}
use Rattle.dali_region.specs.State.{RegionState, latched, with_reads}
use Rattle.dali_system.proofs.UnderWays.{latched_unheld}
use Rattle.dali_calls.specs.Steps.{call_key, IsBlockOf}
use Rattle.dali_record.specs.Blocks.{IsSoundOn}
use Rattle.dali_calls.specs.Plans.{Planned, plan_next, is_back, with_operation, IsWhole}
use Rattle.dali_notes.specs.History.{Added}
use Rattle.dali_concurrent.specs.Entries.{client_note, region_note}
use Rattle.dali_concurrent.specs.Told.{Item, History}
use Rattle.dali_locked.specs.Begun.{outset, Of, homed}
use Rattle.dali_locked.specs.Sights.{ClientSight, RegionSight, Knows, client_sight, region_sight}
use Rattle.dali_locked.specs.SystemSteps.{Driving}
use Rattle.dali_locked.specs.Regions.{RegionKept, IsAmid, IsAt, latch_item}
use Rattle.dali_locked.proofs.RegionSigns.{signs_pair}
use Rattle.dali_locked.proofs.RegionOps.{counted}
use Rattle.dali_locked.proofs.RegionAdding.{led_on, client_is, region_is, may_of, added_of, kept_of, kept_next, next_at}
use Rattle.dali_locked.proofs.RegionMay.{tends_of, latch_may}
use Rattle.dali_locked.proofs.RegionKnows.{Opening, opening, opened_soundly, opened_whole, latched_knows}
use Rattle.dali_locked.proofs.region.LockedRegion.latch.Given as given
use Rattle.dali_locked.proofs.region.LockedRegion.latch.Goals as goal
use Rattle.dali_locked.proofs.region.LockedRegion.latch.Goals.{After-self-1}

pub tell_both-requires-clause-may : goal.tell_both-requires-clause-may
tell_both-requires-clause-may g c κs within =
    let b = (homed g.H.Home.table g.B.Beginning.begun) in
    let s = c.self.inside in
    let p = c.args.plan.now in
    let x : RegionSight = record { number = s.number; steps = s.steps; audits = s.audits; region = s.region; seen = s.note.seen } in
    let client : ClientSight = record { id = c.client.inside.id; seen = c.client.inside.note.seen } in
    let told : latch_item client.id x.number c.txn-txn.result c.latch.new.region ≡ latch_item client.id x.number p.txn c.latch.new.region = ap (λ t. latch_item client.id x.number t c.latch.new.region) (c.txn-txn.ensures ∙ ap (λ (z : Planned). z.txn) c.latch.ensures.same) in
    let at : Knows b (Driving client.id p) client = subst (λ (z : ClientSight). Knows b (Driving z.id p) z) (sym c.client.view_is) c.requires.acts in
    let o = opening c.latch.new.self.operation p.txn (plan_next p) (call_key p.call) s.region c.latch.new.region c.in-Ok.ensures.made in
    may_of b c.client.inside.note s.note (client_sight b client) (region_sight b x) _ _ (client_is b c.client.inside.note client.id c.client.invariant.0 c.client.invariant.1) (region_is b s.note x c.self.invariant refl) told
    (latch_may b s.note.table s.note.number x c.self.invariant client p.txn o.mask c.latch.new.region (λ u q each. tends_of client.id p.txn (outset b u q) client.seen (at u q each).acts) (latched_unheld (not (is_back p) && c.args.precheck) s.region c.in-Ok.ensures.answer) o.fits o.is)

pub invariant_of-self : goal.invariant_of-self
invariant_of-self g c =
    let s = c.self.inside in
    subst (λ (h : RegionState). RegionKept (homed g.H.Home.table g.B.Beginning.begun) s.note.table s.note.number (record { number = s.number; steps = s.steps; audits = s.audits; region = h; seen = s.note.seen })) (sym c.in-Err.ensures.refused.1) c.self.invariant

pub invariant_of-client : goal.invariant_of-client
invariant_of-client g c =
    (c.tell_both.ensures.table ∙ c.client.invariant.0, c.tell_both.ensures.number ∙ c.client.invariant.1, led_on (homed g.H.Home.table g.B.Beginning.begun) c.client.inside.note.seen c.tell_both.new.client.seen c.client.invariant.2 c.tell_both.ensures.all)

told : (g : given.Over) (c : After-self-1 g) → Added
    (client_sight (homed g.H.Home.table g.B.Beginning.begun) (record { id = c.client.inside.id; seen = c.client.inside.note.seen })
    ∷ region_sight (homed g.H.Home.table g.B.Beginning.begun) (record { number = c.self.inside.number; steps = c.self.inside.steps; audits = c.self.inside.audits; region = c.self.inside.region; seen = c.self.inside.note.seen }) ∷ [])
    (latch_item c.client.inside.id c.self.inside.number c.args.plan.now.txn c.latch.new.region) c.tell_both.new.client.seen
told g c =
    let b = (homed g.H.Home.table g.B.Beginning.begun) in
    let s = c.self.inside in
    let p = c.args.plan.now in
    let x : RegionSight = record { number = s.number; steps = s.steps; audits = s.audits; region = s.region; seen = s.note.seen } in
    added_of c.client.inside.note s.note _ _ _ _ c.tell_both.new.client.seen (client_is b c.client.inside.note c.client.inside.id c.client.invariant.0 c.client.invariant.1) (region_is b s.note x c.self.invariant refl)
    (ap (λ t. latch_item c.client.inside.id s.number t c.latch.new.region) (c.txn-txn.ensures ∙ ap (λ (z : Planned). z.txn) c.latch.ensures.same))
    c.tell_both.ensures.added

pub invariant_of-self-2 : goal.invariant_of-self-2
invariant_of-self-2 g c =
    let b = (homed g.H.Home.table g.B.Beginning.begun) in
    let s = c.self.inside in
    let client : ClientSight = record { id = c.client.inside.id; seen = c.client.inside.note.seen } in
    let x : RegionSight = record { number = s.number; steps = s.steps; audits = s.audits; region = s.region; seen = s.note.seen } in
    let item = latch_item client.id s.number c.args.plan.now.txn c.latch.new.region in
    kept_of b s.note c.tell_both.new.note (record { number = s.number; steps = s.steps + 1; audits = s.audits; region = c.latch.new.region; seen = c.tell_both.new.client.seen }) c.tell_both.ensures.other
    (kept_next b client s.note.table s.note.number x c.self.invariant c.latch.new.region item c.tell_both.new.client.seen (told g c) c.tell_both.ensures.all
    (λ k at. get_set k.regions s.number s.region c.latch.new.region at) (λ n right e. absurd (cc))
    (counted s.number (client_note b.count client.id ∷ region_note s.number ∷ []) item c.latch.new.region (signs_pair (client_note b.count client.id) s.number) refl refl))

pub returns-clause-made : goal.returns-clause-made
returns-clause-made g c =
    let p = c.args.plan.now in
    subst (λ (z : RegionSight). IsSomeAnd c.latch.new.self.operation (λ o. (o.txn ≡ p.txn) × IsBlockOf (plan_next p) (call_key p.call) o.block × IsSoundOn z.region.words o.block × (c.latch.new.region ≡ with_reads o.block.read (latched p.txn z.region)))) c.self.view_is
    (opened_soundly c.latch.new.self.operation p.txn (plan_next p) (call_key p.call) c.self.inside.region c.latch.new.region c.in-Ok.ensures.made c.in-Ok.ensures.sound)

pub returns-clause-tells : goal.returns-clause-tells
returns-clause-tells g c =
    let b = (homed g.H.Home.table g.B.Beginning.begun) in
    let t = c.args.plan.now.txn in
    subst (λ (z : ClientSight). Added (client_sight b z ∷ region_sight b c.args.self.now ∷ []) (latch_item z.id c.args.self.now.number t c.latch.new.region) c.tell_both.new.client.seen) c.client.view_is
    (subst (λ (z : RegionSight). Added (client_sight b (record { id = c.client.inside.id; seen = c.client.inside.note.seen }) ∷ region_sight b z ∷ []) (latch_item c.client.inside.id z.number t c.latch.new.region) c.tell_both.new.client.seen)
    c.self.view_is (told g c))

pub returns-clause-at : goal.returns-clause-at
returns-clause-at g c =
    let b = (homed g.H.Home.table g.B.Beginning.begun) in
    let s = c.self.inside in
    let p = c.args.plan.now in
    let client : ClientSight = record { id = c.client.inside.id; seen = c.client.inside.note.seen } in
    let x : RegionSight = record { number = s.number; steps = s.steps; audits = s.audits; region = s.region; seen = s.note.seen } in
    let item = latch_item client.id s.number p.txn c.latch.new.region in
    let o = opening c.latch.new.self.operation p.txn (plan_next p) (call_key p.call) s.region c.latch.new.region c.in-Ok.ensures.made in (
      refl,
      subst (λ (z : RegionSight). IsAt z.number (s.steps + 1) c.latch.new.self.operation c.tell_both.new.client.seen) c.self.view_is
          (next_at b client s.note.table s.note.number x c.self.invariant c.latch.new.region item c.tell_both.new.client.seen (told g c) c.tell_both.ensures.all
          (λ k at. get_set k.regions s.number s.region c.latch.new.region at) (λ n right e. absurd (cc)) c.latch.new.self.operation
          (counted s.number (client_note b.count client.id ∷ region_note s.number ∷ []) item c.latch.new.region (signs_pair (client_note b.count client.id) s.number) refl refl) o.under_way),
    )

pub returns-clause-amid : goal.returns-clause-amid
returns-clause-amid g c =
    let b = (homed g.H.Home.table g.B.Beginning.begun) in
    let s = c.self.inside in
    let p = c.args.plan.now in
    let client : ClientSight = record { id = c.client.inside.id; seen = c.client.inside.note.seen } in
    let x : RegionSight = record { number = s.number; steps = s.steps; audits = s.audits; region = s.region; seen = s.note.seen } in
    let at : Knows b (Driving client.id p) client = subst (λ (z : ClientSight). Knows b (Driving z.id p) z) (sym c.client.view_is) c.requires.acts in
    let amid : Of b (IsAmid client.id x.number (with_operation p c.latch.new.self.operation)) c.tell_both.new.client.seen =
    latched_knows b client s.note.table s.note.number x c.self.invariant p c.latch.new.self.operation c.latch.new.region c.tell_both.new.client.seen at
    (λ onward check. c.in-Ok.ensures.checked onward (c.requires.precheck ∙ check)) (told g c) c.tell_both.ensures.all in
    subst (λ (z : Planned). Of b (IsAmid c.args.client.now.id c.args.self.now.number z) c.tell_both.new.client.seen) (sym c.latch.ensures.same)
    (subst (λ (z : ClientSight). Of b (IsAmid z.id c.args.self.now.number (with_operation p c.latch.new.self.operation)) c.tell_both.new.client.seen) c.client.view_is
    (subst (λ (z : RegionSight). Of b (IsAmid client.id z.number (with_operation p c.latch.new.self.operation)) c.tell_both.new.client.seen) c.self.view_is amid))

pub returns-clause-whole : goal.returns-clause-whole
returns-clause-whole g c =
    let p = c.args.plan.now in
    λ whole. subst IsWhole (sym c.latch.ensures.same) (opened_whole p c.latch.new.self.operation c.self.inside.region c.latch.new.region whole c.in-Ok.ensures.made)
