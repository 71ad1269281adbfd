use Rattle.std.proofs.Common.{◌≡◌, ◌+◌, ◌<◌, ℕ, Bool, true, false, [], ◌∷◌, Option, Some, None, IsSomeAnd, refl, ap, sym, subst, ◌∙◌}
use Rattle.dali_lists.proofs.Lists.{get_set}
use Rattle.dali_lists.proofs.Tests.{not_both_ways}
use Rattle.dali_region.specs.State.{RegionState, IsLive, dead}
use Rattle.dali_att.specs.declared.state.State.TheVariants.{Live, Dead}
use Rattle.dali_runs.specs.State.{SystemState, state_of}
use Rattle.dali_runs.specs.Steps.{in_state}
use Rattle.dali_runs.specs.Keeps.{moves_to}
use Rattle.dali_system.specs.Served.{Served}
use Rattle.dali_system.specs.declared.operation.Operation.{Operation}
use Rattle.dali_system.specs.UnderWay.{OneIsUnderWay}
use Rattle.dali_calls.specs.Plans.{Planned}
use Rattle.dali_notes.specs.History.{IsSeen, Sight, Added}
use Rattle.dali_concurrent.specs.Entries.{client_note, system_note, region_note}
use Rattle.dali_concurrent.specs.Told.{Item, History}
use Rattle.dali_concurrent.specs.Kept.{SystemTold}
use Rattle.dali_locked.specs.Begun.{Begun, Of, Led, homed}
use Rattle.dali_locked.specs.Sights.{ClientSight, SystemSight, RegionSight, Acts, Knows, client_sight, system_sight, region_sight}
use Rattle.dali_locked.specs.Regions.{RegionKept, IsAt, IsAmid, is_live}
use Rattle.dali_locked.specs.SystemSteps.{Keeps, StaysBut}
use Rattle.dali_locked.specs.Dying.{dies_item, HasDied}
use Rattle.dali_locked.proofs.RegionSigns.{signs_three}
use Rattle.dali_locked.proofs.RegionOps.{counted}
use Rattle.dali_locked.proofs.RegionAdding.{led_on, client_is, system_is, met_seen, met_is, still_noted, kept_of, kept_meets}
use Rattle.dali_locked.proofs.RegionKnows.{comes_back, held_for}
use Rattle.dali_locked.proofs.RegionDone.{may_of_three, added_of_three, lives_there, live_is, system_told_on}
use Rattle.dali_locked.proofs.RegionCommit.{by_three}
use Rattle.dali_locked.proofs.DyingAdding.{three_added_before, three_kept, three_system}
use Rattle.dali_locked.proofs.DyingKnows.{dies_may, died_knows, died_keeps}
use Rattle.dali_locked.proofs.DyingBeside.{died_beside}
use Rattle.dali_locked.proofs.region.LockedRegion.die.Given as given
use Rattle.dali_locked.proofs.region.LockedRegion.die.Goals as goal

of : (q : Option Operation) (k : RegionState) → OneIsUnderWay q k → IsLive k
of None k under = absurd under
of (Some a) k under = subst (λ z. IsSomeAnd z (λ h. h.dead ≡ false)) (sym under.hold) refl

pub invariant_of-self : goal.invariant_of-self
invariant_of-self g c =
    let b = (homed g.H.Home.table g.B.Beginning.begun) in
    let s = c.self.inside in
    let m = c.meet.new.note in
    let x : RegionSight = record { number = s.number; steps = s.steps; audits = s.audits; region = s.region; seen = s.note.seen } in
    let y : RegionSight = record { number = s.number; steps = s.steps; audits = s.audits; region = s.region; seen = m.seen } in
    let its : IsSeen m.seen (region_note x.number) x.seen = met_seen b s.note m x c.self.invariant c.meet.ensures.seen in
    let kept : RegionKept b s.note.table s.note.number y = kept_meets b s.note.table s.note.number x m.seen c.self.invariant its c.meet.ensures.all in
    kept_of b s.note m y (still_noted s.note m m m.seen c.meet.ensures.table c.meet.ensures.number refl) kept

pub invariant_of-system : goal.invariant_of-system
invariant_of-system g c =
    let b = (homed g.H.Home.table g.B.Beginning.begun) in
    let w : SystemSight = record { served = c.system.inside.system; seen = c.system.inside.note.seen } in
    let n = c.meet-2.new.note in
    let theirs : IsSeen n.seen system_note w.seen = subst (λ k. IsSeen n.seen k w.seen) c.system.invariant.1 c.meet-2.ensures.seen in (
      c.meet-2.ensures.table ∙ c.system.invariant.0,
      c.meet-2.ensures.number ∙ c.system.invariant.1,
      led_on b w.seen n.seen c.system.invariant.2 c.meet-2.ensures.all,
      system_told_on b w n.seen c.system.invariant.2 c.system.invariant.3 theirs c.meet-2.ensures.all,
    )

pub returns-then-not-lives-clause-unfit : goal.returns-then-not-lives-clause-unfit
returns-then-not-lives-clause-unfit g c =
    let b = (homed g.H.Home.table g.B.Beginning.begun) in
    let client : ClientSight = record { id = c.client.inside.id; seen = c.client.inside.note.seen } in
    let w : SystemSight = record { served = c.system.inside.system; seen = c.system.inside.note.seen } in
    let t = c.args.plan.now.txn in
    let n = c.meet-2.new.note in
    let theirs : IsSeen n.seen system_note w.seen = subst (λ k. IsSeen n.seen k w.seen) c.system.invariant.1 c.meet-2.ensures.seen in
    let mine : IsSeen n.seen (client_note b.count client.id) client.seen =
    subst (λ (q : Sight Item). IsSeen n.seen q.number q.seen) (c.meet.ensures.other ∙ client_is b c.client.inside.note client.id c.client.invariant.0 c.client.invariant.1) c.meet-2.ensures.theirs in
    let knows : Knows b (Acts client.id t) client = subst (λ (k : ClientSight). Knows b (Acts k.id t) k) (sym c.client.view_is) (λ q r each. (c.requires.amid q r each).acts) in
    let isnt : is_live (state_of w.served.state t) ≡ false = ap (λ u. is_live (state_of w.served.state u)) (sym c.txn-txn.ensures) ∙ (ap is_live (sym c.state.ensures) ∙ (sym c.is_live-lives.ensures ∙ c.if-not-lives.true)) in
    (refl, λ q r each. not_both_ways (ap is_live (lives_there b client w t n.seen c.system.invariant.2 c.system.invariant.3 knows theirs mine c.meet-2.ensures.all q r each)) isnt)

pub mark_dead-requires : goal.mark_dead-requires
mark_dead-requires g c =
    let b = (homed g.H.Home.table g.B.Beginning.begun) in
    let s = c.self.inside in
    let client : ClientSight = record { id = c.client.inside.id; seen = c.client.inside.note.seen } in
    let x : RegionSight = record { number = s.number; steps = s.steps; audits = s.audits; region = s.region; seen = s.note.seen } in
    let p = c.args.plan.now in
    let m = c.meet.new.note in
    let its : IsSeen m.seen (region_note x.number) x.seen = met_seen b s.note m x c.self.invariant c.meet.ensures.seen in
    let stood : IsAt x.number c.args.at p.operation client.seen =
    subst (λ (k : ClientSight). IsAt x.number c.args.at p.operation k.seen) (sym c.client.view_is) (subst (λ (k : RegionSight). IsAt k.number c.args.at p.operation c.args.client.now.seen) (sym c.self.view_is) c.requires.stood) in
    of p.operation s.region
    (comes_back client x c.args.at p.operation c.client.inside.note.number m.seen c.meet.ensures.theirs its (c.requires.last ∙ ap (λ (k : RegionSight). k.steps) (sym c.self.view_is)) stood c.self.invariant.operation)

pub mark_dead-requires-2 : goal.mark_dead-requires-2
mark_dead-requires-2 g c =
    let s = c.self.inside in
    let y = c.system.inside.system.state in
    let t = c.args.plan.now.txn in
    let stands : is_live (state_of y t) ≡ true = ap (λ u. is_live (state_of y u)) (sym c.txn-txn.ensures) ∙ (ap is_live (sym c.state.ensures) ∙ (sym c.is_live-lives.ensures ∙ c.if-not-lives.false)) in
    record {
      moves = subst (λ u. IsSomeAnd (state_of y u) (λ q. moves_to q (Dead (Some s.number)) ≡ true)) (sym c.txn-txn.ensures)
          (subst (λ q. IsSomeAnd q (λ r. moves_to r (Dead (Some s.number)) ≡ true)) (sym (live_is (state_of y t) stands)) refl);
    }

pub sign_death-requires-clause-may : goal.sign_death-requires-clause-may
sign_death-requires-clause-may g c κs within =
    let b = (homed g.H.Home.table g.B.Beginning.begun) in
    let s = c.self.inside in
    let client : ClientSight = record { id = c.client.inside.id; seen = c.client.inside.note.seen } in
    let x : RegionSight = record { number = s.number; steps = s.steps; audits = s.audits; region = s.region; seen = s.note.seen } in
    let w : SystemSight = record { served = c.system.inside.system; seen = c.system.inside.note.seen } in
    let p = c.args.plan.now in
    let m = c.meet.new.note in
    let n = c.meet-2.new.note in
    let y : RegionSight = record { number = s.number; steps = s.steps; audits = s.audits; region = s.region; seen = m.seen } in
    let v : SystemSight = record { served = c.system.inside.system; seen = n.seen } in
    let its : IsSeen m.seen (region_note x.number) x.seen = met_seen b s.note m x c.self.invariant c.meet.ensures.seen in
    let theirs : IsSeen n.seen system_note w.seen = subst (λ k. IsSeen n.seen k w.seen) c.system.invariant.1 c.meet-2.ensures.seen in
    let kept : RegionKept b s.note.table s.note.number y = kept_meets b s.note.table s.note.number x m.seen c.self.invariant its c.meet.ensures.all in
    let system : Of b (λ o T. SystemTold o w.served.state T) n.seen = system_told_on b w n.seen c.system.invariant.2 c.system.invariant.3 theirs c.meet-2.ensures.all in
    let knows : Knows b (IsAmid client.id x.number p) client =
    subst (λ (k : ClientSight). Knows b (IsAmid k.id x.number p) k) (sym c.client.view_is) (subst (λ (k : RegionSight). Knows b (IsAmid c.args.client.now.id k.number p) c.args.client.now) (sym c.self.view_is) c.requires.amid) in
    let stood : IsAt x.number c.args.at p.operation client.seen =
    subst (λ (k : ClientSight). IsAt x.number c.args.at p.operation k.seen) (sym c.client.view_is) (subst (λ (k : RegionSight). IsAt k.number c.args.at p.operation c.args.client.now.seen) (sym c.self.view_is) c.requires.stood) in
    let under : OneIsUnderWay p.operation s.region =
    comes_back client x c.args.at p.operation c.client.inside.note.number m.seen c.meet.ensures.theirs its (c.requires.last ∙ ap (λ (k : RegionSight). k.steps) (sym c.self.view_is)) stood c.self.invariant.operation in
    let stands : is_live (state_of w.served.state p.txn) ≡ true = ap (λ u. is_live (state_of w.served.state u)) (sym c.txn-txn.ensures) ∙ (ap is_live (sym c.state.ensures) ∙ (sym c.is_live-lives.ensures ∙ c.if-not-lives.false)) in
    let h = c.mark_dead.new.self in
    let k : SystemState = c.mark_dead-2.new.self.state in
    let mine : c.meet-2.new.other ≡ client_sight b client = c.meet-2.ensures.other ∙ (c.meet.ensures.other ∙ client_is b c.client.inside.note client.id c.client.invariant.0 c.client.invariant.1) in
    let m_is : m ≡ region_sight b y = met_is b s.note m x c.self.invariant c.meet.ensures.table c.meet.ensures.number in
    let n_is : n ≡ system_sight b v = system_is b n w.served (c.meet-2.ensures.table ∙ c.system.invariant.0) (c.meet-2.ensures.number ∙ c.system.invariant.1) in
    let item = dies_item client.id x.number p.txn h k in
    let same : dies_item client.id x.number c.txn-txn.result h k ≡ item = ap (λ u. dies_item client.id x.number u h k) c.txn-txn.ensures in
    let state_is : k ≡ in_state w.served.state p.txn (Dead (Some x.number)) = ap (λ (q : Served). q.state) c.mark_dead-2.ensures ∙ ap (λ u. in_state w.served.state u (Dead (Some x.number))) c.txn-txn.ensures in
    let is : item ≡ dies_item client.id x.number p.txn (dead x.region) (in_state w.served.state p.txn (Dead (Some x.number))) = ap (λ q. dies_item client.id x.number p.txn q k) c.mark_dead.ensures.after ∙ ap (dies_item client.id x.number p.txn (dead x.region)) state_is in
    may_of_three b c.meet-2.new.other n m (client_sight b client) (system_sight b v) (region_sight b y) _ _ mine n_is m_is (same ∙ is)
    (dies_may b client y s.note.table s.note.number kept v system p knows c.requires.onward (held_for p s.region c.requires.whole under) (live_is (state_of w.served.state p.txn) stands))

-- ---- behind the entry
module _ (g : given.Over) (c : goal.After-self-1 g) where
  abbrev b : Begun
  b = (homed g.H.Home.table g.B.Beginning.begun)

  abbrev client : ClientSight
  client = record { id = c.client.inside.id; seen = c.client.inside.note.seen }

  abbrev x : RegionSight
  x = record { number = c.self.inside.number; steps = c.self.inside.steps; audits = c.self.inside.audits; region = c.self.inside.region; seen = c.self.inside.note.seen }

  abbrev w : SystemSight
  w = record { served = c.system.inside.system; seen = c.system.inside.note.seen }

  abbrev p : Planned
  p = c.args.plan.now

  abbrev m : Sight Item
  m = c.meet.new.note

  abbrev n : Sight Item
  n = c.meet-2.new.note

  abbrev y : RegionSight
  y = record { number = c.self.inside.number; steps = c.self.inside.steps; audits = c.self.inside.audits; region = c.self.inside.region; seen = m.seen }

  abbrev v : SystemSight
  v = record { served = c.system.inside.system; seen = n.seen }

  its : IsSeen m.seen (region_note x.number) x.seen
  its = met_seen b c.self.inside.note m x c.self.invariant c.meet.ensures.seen

  theirs : IsSeen n.seen system_note w.seen
  theirs = subst (λ k. IsSeen n.seen k w.seen) c.system.invariant.1 c.meet-2.ensures.seen

  kept : RegionKept b c.self.inside.note.table c.self.inside.note.number y
  kept = kept_meets b c.self.inside.note.table c.self.inside.note.number x m.seen c.self.invariant its c.meet.ensures.all

  system : Of b (λ o T. SystemTold o w.served.state T) n.seen
  system = system_told_on b w n.seen c.system.invariant.2 c.system.invariant.3 theirs c.meet-2.ensures.all

  abbrev h : RegionState
  h = c.mark_dead.new.self

  abbrev k : SystemState
  k = c.mark_dead-2.new.self.state

  abbrev new : History
  new = c.sign_death.new.client.seen

  was : c.meet-2.new.other ≡ c.client.inside.note
  was = c.meet-2.ensures.other ∙ c.meet.ensures.other

  abbrev item : Item
  item = dies_item client.id x.number p.txn h k

  told : Added (client_sight b client ∷ system_sight b v ∷ region_sight b y ∷ []) item new
  told = added_of_three c.meet-2.new.other n m (client_sight b client) (system_sight b v) (region_sight b y) (dies_item client.id x.number c.txn-txn.result h k) item new
      (was ∙ client_is b c.client.inside.note client.id c.client.invariant.0 c.client.invariant.1)
      (system_is b n w.served (c.meet-2.ensures.table ∙ c.system.invariant.0) (c.meet-2.ensures.number ∙ c.system.invariant.1))
      (met_is b c.self.inside.note m x c.self.invariant c.meet.ensures.table c.meet.ensures.number)
      (ap (λ u. dies_item client.id x.number u h k) c.txn-txn.ensures) c.sign_death.ensures.added

  state_is : k ≡ in_state w.served.state p.txn (Dead (Some x.number))
  state_is = ap (λ (q : Served). q.state) c.mark_dead-2.ensures ∙ ap (λ u. in_state w.served.state u (Dead (Some x.number))) c.txn-txn.ensures

  told_so : Added (client_sight b client ∷ system_sight b v ∷ region_sight b y ∷ []) (dies_item client.id x.number p.txn (dead x.region) (in_state w.served.state p.txn (Dead (Some x.number)))) new
  told_so =
      subst (λ i. Added (client_sight b client ∷ system_sight b v ∷ region_sight b y ∷ []) i new) (ap (λ q. dies_item client.id x.number p.txn q k) c.mark_dead.ensures.after ∙ ap (dies_item client.id x.number p.txn (dead x.region)) state_is) told

pub invariant_of-self-2 : goal.invariant_of-self-2
invariant_of-self-2 g c =
    let s = c.self.inside in
    kept_of (b g c) s.note c.sign_death.new.note (record { number = s.number; steps = s.steps + 1; audits = s.audits; region = h g c; seen = new g c })
    (still_noted s.note (m g c) c.sign_death.new.note (new g c) c.meet.ensures.table c.meet.ensures.number c.sign_death.ensures.region)
    (three_kept (b g c) (client g c) (y g c) s.note.table s.note.number (kept g c) (v g c) (system g c) (h g c) (item g c) (new g c) (told g c) c.sign_death.ensures.all
    (λ d at. get_set d.regions s.number s.region (h g c) at) (λ a right e. cc)
    (counted s.number (by_three (b g c).count (client g c).id s.number) (item g c) (h g c) (signs_three (client_note (b g c).count (client g c).id) s.number) refl refl))

pub invariant_of-client-2 : goal.invariant_of-client-2
invariant_of-client-2 g c = (
  c.sign_death.ensures.client.1 ∙ (ap (λ (q : Sight Item). q.table) (was g c) ∙ c.client.invariant.0),
  c.sign_death.ensures.client.0 ∙ (ap (λ (q : Sight Item). q.number) (was g c) ∙ c.client.invariant.1),
  led_on (b g c) c.client.inside.note.seen c.sign_death.new.client.seen c.client.invariant.2 c.sign_death.ensures.all,
)

pub invariant_of-system-2 : goal.invariant_of-system-2
invariant_of-system-2 g c =
    let b = (homed g.H.Home.table g.B.Beginning.begun) in
    let s = c.self.inside in
    let k : SystemState = c.mark_dead-2.new.self.state in
    subst (λ (q : Sight Item). (q.table ≡ b.table) × (q.number ≡ system_note) × Led b q.seen × Of b (λ o T. SystemTold o k T) q.seen) (sym c.sign_death.ensures.system) (
      c.meet-2.ensures.table ∙ c.system.invariant.0,
      c.meet-2.ensures.number ∙ c.system.invariant.1,
      led_on b c.system.inside.note.seen (new g c) c.system.invariant.2 c.sign_death.ensures.all,
      three_system b (client g c) (y g c) s.note.table s.note.number (kept g c) (v g c) (system g c) k (item g c) (new g c) (told g c) c.sign_death.ensures.all (λ d. refl),
    )

pub returns-clause-tells : goal.returns-clause-tells
returns-clause-tells g c =
    subst (λ (q : ClientSight). Added (client_sight (b g c) q ∷ system_sight (b g c) c.args.system.now ∷ region_sight (b g c) c.args.self.now ∷ []) (dies_item q.id c.args.self.now.number (p g c).txn (h g c) (k g c)) (new g c)) c.client.view_is
    (subst (λ (q : RegionSight). Added (client_sight (b g c) (client g c) ∷ system_sight (b g c) c.args.system.now ∷ region_sight (b g c) q ∷ []) (dies_item (client g c).id q.number (p g c).txn (h g c) (k g c)) (new g c)) c.self.view_is
    (subst (λ (q : SystemSight). Added (client_sight (b g c) (client g c) ∷ system_sight (b g c) q ∷ region_sight (b g c) (x g c) ∷ []) (item g c) (new g c)) c.system.view_is
    (three_added_before (b g c) (client g c) (w g c) (x g c) (n g c).seen (m g c).seen (item g c) (new g c) (theirs g c) (its g c) (told g c))))

pub returns-clause-dies : goal.returns-clause-dies
returns-clause-dies g c =
    let s = c.self.inside in
    subst (λ (q : RegionSight). Of (b g c) (HasDied (p g c).txn q.number) (new g c)) c.self.view_is
    (died_knows (b g c) (client g c) (y g c) s.note.table s.note.number (kept g c) (v g c) (system g c) (p g c) (new g c) (told_so g c) c.sign_death.ensures.all)

pub returns-clause-keeps : goal.returns-clause-keeps
returns-clause-keeps g c =
    let s = c.self.inside in
    subst (λ (q : ClientSight). Keeps (b g c) q (record { id = q.id; seen = new g c })) c.client.view_is
    (died_keeps (b g c) (client g c) (y g c) s.note.table s.note.number (kept g c) (v g c) (system g c) (p g c) (new g c) (told_so g c) c.sign_death.ensures.all)

pub returns-clause-beside : goal.returns-clause-beside
returns-clause-beside g c =
    let s = c.self.inside in
    subst (λ (q : ClientSight). StaysBut (b g c) q (p g c).txn (record { id = q.id; seen = new g c })) c.client.view_is
    (died_beside (b g c) (client g c) (y g c) s.note.table s.note.number (kept g c) (v g c) (system g c) (p g c) (new g c) (told_so g c) c.sign_death.ensures.all)
