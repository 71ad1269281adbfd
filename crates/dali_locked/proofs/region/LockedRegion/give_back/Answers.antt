use Rattle.std.proofs.Common.{◌≡◌, ◌+◌, ◌<◌, ℕ, Bool, true, false, [], ◌∷◌, Some, refl, ap, sym, subst, ◌∙◌}
use Rattle.dali_att.specs.declared.state.State.TheVariants.{Dead}
use Rattle.dali_runs.specs.State.{SystemState, state_of}
use Rattle.dali_runs.specs.Steps.{in_state}
use Rattle.dali_system.specs.Served.{Served}
use Rattle.dali_transcripts.specs.World.{is_claimed_in}
use Rattle.dali_notes.specs.History.{IsSeen, Sight, Added}
use Rattle.dali_concurrent.specs.Entries.{client_note, system_note}
use Rattle.dali_concurrent.specs.Told.{Item, History}
use Rattle.dali_concurrent.specs.Kept.{SystemTold}
use Rattle.dali_locked.specs.Begun.{Begun, Of, Led, homed}
use Rattle.dali_locked.specs.Sights.{ClientSight, SystemSight, RegionSight, Knows, client_sight, system_sight, region_sight}
use Rattle.dali_locked.specs.SystemSteps.{Cleaning, LetsClaim, StaysBut}
use Rattle.dali_locked.specs.Dying.{gives_item, IsIdle, left_in}
use Rattle.dali_locked.proofs.RegionAdding.{led_on, client_is, system_is, region_is, kept_of}
use Rattle.dali_locked.proofs.RegionDone.{may_of_three, added_of_three, system_told_on}
use Rattle.dali_locked.proofs.DyingAdding.{system_three_before, three_system}
use Rattle.dali_locked.proofs.DyingGiving.{claimed_moves, claimed_where, gives_may, gives_lets, gives_kept}
use Rattle.dali_locked.proofs.DyingBeside.{gives_beside}
use Rattle.dali_locked.proofs.region.LockedRegion.give_back.Given as given
use Rattle.dali_locked.proofs.region.LockedRegion.give_back.Goals as goal

pub invariant_of-system : goal.invariant_of-system
invariant_of-system g c =
    let b = (homed g.H.Home.table g.B.Beginning.begun) in
    let w : SystemSight = record { served = c.system.inside.system; seen = c.system.inside.note.seen } in
    let n = c.meet.new.note in
    let theirs : IsSeen n.seen system_note w.seen = subst (λ k. IsSeen n.seen k w.seen) c.system.invariant.1 c.meet.ensures.seen in (
      c.meet.ensures.table ∙ c.system.invariant.0,
      c.meet.ensures.number ∙ c.system.invariant.1,
      led_on b w.seen n.seen c.system.invariant.2 c.meet.ensures.all,
      system_told_on b w n.seen c.system.invariant.2 c.system.invariant.3 theirs c.meet.ensures.all,
    )

pub returns-then-not-claimed-clause-unfit : goal.returns-then-not-claimed-clause-unfit
returns-then-not-claimed-clause-unfit g c =
    let b = (homed g.H.Home.table g.B.Beginning.begun) in
    let t = c.args.txn in
    let r = c.args.self.now.number in
    let client : ClientSight = record { id = c.client.inside.id; seen = c.client.inside.note.seen } in
    let w : SystemSight = record { served = c.system.inside.system; seen = c.system.inside.note.seen } in
    let n = c.meet.new.note in
    let theirs : IsSeen n.seen system_note w.seen = subst (λ k. IsSeen n.seen k w.seen) c.system.invariant.1 c.meet.ensures.seen in
    let knows : Knows b (Cleaning client.id t (Some r)) client = subst (λ (k : ClientSight). Knows b (Cleaning k.id t (Some r)) k) (sym c.client.view_is) c.requires.cleans in
    let claims : is_claimed_in (state_of w.served.state t) ≡ false = ap is_claimed_in (sym c.state.ensures) ∙ (sym c.is_claimed-claimed.ensures ∙ c.if-not-claimed.true) in
    let mine : IsSeen n.seen (client_note b.count client.id) client.seen = subst (λ q. IsSeen n.seen q client.seen) c.client.invariant.1 c.meet.ensures.theirs in
    (refl, claimed_where b t (Some r) client w n.seen c.client.invariant.2 c.system.invariant.3 knows c.meet.ensures.all mine theirs claims)

pub mark_dead-requires : goal.mark_dead-requires
mark_dead-requires g c =
    let y = c.system.inside.system.state in
    let claims : is_claimed_in (state_of y c.args.txn) ≡ true = ap is_claimed_in (sym c.state.ensures) ∙ (sym c.is_claimed-claimed.ensures ∙ c.if-not-claimed.false) in
    record { moves = claimed_moves (state_of y c.args.txn) (Some c.self.inside.number) claims }

pub sign_death-requires-clause-may : goal.sign_death-requires-clause-may
sign_death-requires-clause-may g c κs within =
    let b = (homed g.H.Home.table g.B.Beginning.begun) in
    let s = c.self.inside in
    let t = c.args.txn in
    let client : ClientSight = record { id = c.client.inside.id; seen = c.client.inside.note.seen } in
    let x : RegionSight = record { number = s.number; steps = s.steps; audits = s.audits; region = s.region; seen = s.note.seen } in
    let w : SystemSight = record { served = c.system.inside.system; seen = c.system.inside.note.seen } in
    let n = c.meet.new.note in
    let v : SystemSight = record { served = c.system.inside.system; seen = n.seen } in
    let theirs : IsSeen n.seen system_note w.seen = subst (λ k. IsSeen n.seen k w.seen) c.system.invariant.1 c.meet.ensures.seen in
    let system : Of b (λ o T. SystemTold o w.served.state T) n.seen = system_told_on b w n.seen c.system.invariant.2 c.system.invariant.3 theirs c.meet.ensures.all in
    let knows : Knows b (Cleaning client.id t (Some x.number)) client =
    subst (λ (k : ClientSight). Knows b (Cleaning k.id t (Some x.number)) k) (sym c.client.view_is) (subst (λ (k : RegionSight). Knows b (Cleaning c.args.client.now.id t (Some k.number)) c.args.client.now) (sym c.self.view_is) c.requires.cleans) in
    let claims : is_claimed_in (state_of w.served.state t) ≡ true = ap is_claimed_in (sym c.state.ensures) ∙ (sym c.is_claimed-claimed.ensures ∙ c.if-not-claimed.false) in
    let mine : c.meet.new.other ≡ client_sight b client = c.meet.ensures.other ∙ client_is b c.client.inside.note client.id c.client.invariant.0 c.client.invariant.1 in
    let its : s.note ≡ region_sight b x = region_is b s.note x c.self.invariant refl in
    let n_is : n ≡ system_sight b v = system_is b n w.served (c.meet.ensures.table ∙ c.system.invariant.0) (c.meet.ensures.number ∙ c.system.invariant.1) in
    let state_is : c.mark_dead.new.self.state ≡ in_state w.served.state t (Dead (Some x.number)) = ap (λ (q : Served). q.state) c.mark_dead.ensures in
    may_of_three b c.meet.new.other n s.note (client_sight b client) (system_sight b v) (region_sight b x) _ _ mine n_is its (ap (gives_item client.id x.number t) state_is)
    (gives_may b client x s.note.table s.note.number c.self.invariant v system t knows
    (subst (λ (k : ClientSight). Knows b (IsIdle t) k) (sym c.client.view_is) c.requires.idle)
    (subst (λ (k : RegionSight). left_in t k.region.hold ≡ true) (sym c.self.view_is) c.requires.left) claims)

-- ---- behind the entry
module _ (g : given.Over) (c : goal.After-sign_death g) where
  abbrev b : Begun
  b = (homed g.H.Home.table g.B.Beginning.begun)

  abbrev t : ℕ
  t = c.args.txn

  abbrev client : ClientSight
  client = record { id = c.client.inside.id; seen = c.client.inside.note.seen }

  abbrev x : RegionSight
  x = record { number = c.self.inside.number; steps = c.self.inside.steps; audits = c.self.inside.audits; region = c.self.inside.region; seen = c.self.inside.note.seen }

  abbrev w : SystemSight
  w = record { served = c.system.inside.system; seen = c.system.inside.note.seen }

  abbrev n : Sight Item
  n = c.meet.new.note

  abbrev v : SystemSight
  v = record { served = c.system.inside.system; seen = n.seen }

  abbrev k : SystemState
  k = c.mark_dead.new.self.state

  abbrev item : Item
  item = gives_item client.id x.number t k

  abbrev new : History
  new = c.sign_death.new.client.seen

  theirs : IsSeen n.seen system_note w.seen
  theirs = subst (λ q. IsSeen n.seen q w.seen) c.system.invariant.1 c.meet.ensures.seen

  system : Of b (λ o T. SystemTold o w.served.state T) n.seen
  system = system_told_on b w n.seen c.system.invariant.2 c.system.invariant.3 theirs c.meet.ensures.all

  told : Added (client_sight b client ∷ system_sight b v ∷ region_sight b x ∷ []) item new
  told = added_of_three c.meet.new.other n c.self.inside.note (client_sight b client) (system_sight b v) (region_sight b x) item item new
      (c.meet.ensures.other ∙ client_is b c.client.inside.note client.id c.client.invariant.0 c.client.invariant.1)
      (system_is b n w.served (c.meet.ensures.table ∙ c.system.invariant.0) (c.meet.ensures.number ∙ c.system.invariant.1))
      (region_is b c.self.inside.note x c.self.invariant refl) refl c.sign_death.ensures.added

  told_so : Added (client_sight b client ∷ system_sight b v ∷ region_sight b x ∷ []) (gives_item client.id x.number t (in_state w.served.state t (Dead (Some x.number)))) new
  told_so = subst (λ i. Added (client_sight b client ∷ system_sight b v ∷ region_sight b x ∷ []) i new) (ap (gives_item client.id x.number t) (ap (λ (q : Served). q.state) c.mark_dead.ensures)) told

pub invariant_of-self : goal.invariant_of-self
invariant_of-self g c =
    let s = c.self.inside in
    kept_of (b g c) s.note c.sign_death.new.note (record { number = s.number; steps = s.steps; audits = s.audits; region = s.region; seen = new g c }) c.sign_death.ensures.region
    (gives_kept (b g c) (client g c) (x g c) s.note.table s.note.number c.self.invariant (v g c) (system g c) (t g c) (new g c) (told_so g c) c.sign_death.ensures.all)

pub invariant_of-client-2 : goal.invariant_of-client-2
invariant_of-client-2 g c =
    let was : c.meet.new.other ≡ c.client.inside.note = c.meet.ensures.other in (
      c.sign_death.ensures.client.1 ∙ (ap (λ (q : Sight Item). q.table) was ∙ c.client.invariant.0),
      c.sign_death.ensures.client.0 ∙ (ap (λ (q : Sight Item). q.number) was ∙ c.client.invariant.1),
      led_on (b g c) c.client.inside.note.seen (new g c) c.client.invariant.2 c.sign_death.ensures.all,
    )

pub invariant_of-system-2 : goal.invariant_of-system-2
invariant_of-system-2 g c =
    let b = (homed g.H.Home.table g.B.Beginning.begun) in
    let s = c.self.inside in
    let k : SystemState = c.mark_dead.new.self.state in
    subst (λ (q : Sight Item). (q.table ≡ b.table) × (q.number ≡ system_note) × Led b q.seen × Of b (λ o T. SystemTold o k T) q.seen) (sym c.sign_death.ensures.system) (
      c.meet.ensures.table ∙ c.system.invariant.0,
      c.meet.ensures.number ∙ c.system.invariant.1,
      led_on b c.system.inside.note.seen (new g c) c.system.invariant.2 c.sign_death.ensures.all,
      three_system b (client g c) (x g c) s.note.table s.note.number c.self.invariant (v g c) (system g c) k (item g c) (new g c) (told g c) c.sign_death.ensures.all (λ d. refl),
    )

pub returns-clause-tells : goal.returns-clause-tells
returns-clause-tells g c =
    subst (λ (q : ClientSight). Added (client_sight (b g c) q ∷ system_sight (b g c) c.args.system.now ∷ region_sight (b g c) c.args.self.now ∷ []) (gives_item q.id c.args.self.now.number (t g c) (k g c)) (new g c)) c.client.view_is
    (subst (λ (q : RegionSight). Added (client_sight (b g c) (client g c) ∷ system_sight (b g c) c.args.system.now ∷ region_sight (b g c) q ∷ []) (gives_item (client g c).id q.number (t g c) (k g c)) (new g c)) c.self.view_is
    (subst (λ (q : SystemSight). Added (client_sight (b g c) (client g c) ∷ system_sight (b g c) q ∷ region_sight (b g c) (x g c) ∷ []) (item g c) (new g c)) c.system.view_is
    (system_three_before (b g c) (client g c) (w g c) (x g c) (n g c).seen (item g c) (new g c) (theirs g c) (told g c))))

pub returns-clause-lets : goal.returns-clause-lets
returns-clause-lets g c =
    let s = c.self.inside in
    subst (λ (q : ClientSight). LetsClaim (b g c) q (t g c) (record { id = q.id; seen = new g c })) c.client.view_is
    (gives_lets (b g c) (client g c) (x g c) s.note.table s.note.number c.self.invariant (v g c) (system g c) (t g c) (new g c) (told_so g c) c.sign_death.ensures.all)

pub returns-clause-beside : goal.returns-clause-beside
returns-clause-beside g c =
    let s = c.self.inside in
    subst (λ (q : ClientSight). StaysBut (b g c) q (t g c) (record { id = q.id; seen = new g c })) c.client.view_is
    (gives_beside (b g c) (client g c) (x g c) s.note.table s.note.number c.self.invariant (v g c) (system g c) (t g c) (new g c) (told_so g c) c.sign_death.ensures.all)
