-- What a step may rely on that changes other values than those in hand.
use Rattle.std.proofs.Common.{◌≡◌, ℕ, zero, suc, ◌<◌, Bool, true, false, [], ◌∷◌, ◌++◌, List, length, Option, Some, None, IsSomeAnd, refl, ap, sym, subst, ◌∙◌, arith}
use Rattle.std.specs.Prelude.{slice_get, take, filter_map, fold, ◌==◌, if◌then◌else◌}
use Rattle.std.specs.FinMap as map
use Rattle.std.proofs.lemmas.List.{append-nil, append_assoc}
use Rattle.std.proofs.lemmas.List.Sums.{fold-append}
use Rattle.std.proofs.lemmas.Option.{slice_get_within}
use Rattle.std.proofs.lemmas.Bool.{eqb-true}
use Rattle.dali_lists.proofs.Lists.{get_within}
use Rattle.dali_lists.proofs.Tests.{not_both_ways}
use Rattle.dali_runs.proofs.CountsLemmas.Lists.{some_same}
use Rattle.dali_geometry.specs.Places.{regions}
use Rattle.dali_record.specs.declared.records.Record.TheVariants.{Begin, Commit, Ended}
use Rattle.dali_region.specs.declared.Hold.{Hold}
use Rattle.dali_region.specs.State.{RegionState}
use Rattle.dali_att.specs.declared.state.State.{State}
use Rattle.dali_att.specs.declared.state.State.TheVariants.{Live, Dead, Cleaning, Committed}
use Rattle.dali_runs.specs.State.{SystemState, CoreState, state_in, state_of, hold_of, hold_in}
use Rattle.dali_runs.specs.Run.{Bases, IsRow, RunsOn}
use Rattle.dali_runs.specs.Regions.{is_alive}
use Rattle.dali_runs.specs.Wholes.{latched_in, IsWhole}
use Rattle.dali_crash.specs.Checkpoints.{Point}
use Rattle.dali_transcripts.specs.World.{Deed, Logs, DiesOn, Claims, GivesBack, state_step, is_dead_in, stray_after}
use Rattle.dali_transcripts.specs.Rounds.{is_on}
use Rattle.dali_notes.specs.History.{signs}
use Rattle.dali_concurrent.specs.Entries.{Does, Latches, Entry, Did, Latched, Freed, Entries, region_note, client_note, notes_of, deeds_of, done_in, on_in, live_by, live_step, actor_by, actor_step}
use Rattle.dali_concurrent.specs.Rules.{Outset, count_of, log_by, state_by, live_in, dead_in, dead_by, dead_step, TxnFits, Fits, AllFit}
use Rattle.dali_concurrent.specs.Told.{Line, History, plain, plain_one, core_told}
use Rattle.dali_concurrent.specs.Landing.{BeginsAt}
use Rattle.dali_concurrent.specs.Kept.{txn_in, HoldIs, Follows, AllFollow}
use Rattle.dali_concurrent.specs.Holds.{IsLed, HoldsAreTold, HoldIsOfActor, NoneIsLive, DeadIsNamed, StatesAreTold, NextIsFresh, NextMayBegin, ActorStays, LookStays}
use Rattle.dali_concurrent.proofs.Lists.{get_of_front, by_fronts}
use Rattle.dali_concurrent.proofs.Entries.{not_signed, not_done, not_on_it, live_left, dead_left, picked_seen, folded_seen, IdleIn, idle_of, other, not_its, deeds_push}
use Rattle.dali_concurrent.proofs.Fitting.{fits_next, by_entries, quiet_rest}
use Rattle.dali_concurrent.proofs.Told.{plain-append, told_push, lengths, region_left}
use Rattle.dali_concurrent.proofs.Landing.{told_is_whole}
use Rattle.dali_concurrent.proofs.Kept.{stands_of, fit_of}

-- ---- holds as they are told
pub none_live : (q : Option Hold) → (IsSomeAnd q (λ (h : Hold). h.dead ≡ false) → ⊥) → live_in q ≡ None
none_live None f = refl
none_live (Some h) f = by_test h.dead refl
  where
    by_test : (b : Bool) → h.dead ≡ b → ◌≡◌ {A = Option ℕ} (if b then None else Some h.txn) None
    by_test true e = refl
    by_test false e = absurd (f e)

pub live_is : (q : Option Hold) (t : ℕ) → live_in q ≡ Some t → (h : Hold) × (q ≡ Some h) × (h.txn ≡ t) × (h.dead ≡ false)
live_is None t e = absurd (cc)
live_is (Some h) t e = by_test h.dead refl e
  where
    by_test : (b : Bool) → h.dead ≡ b → ◌≡◌ {A = Option ℕ} (if b then None else Some h.txn) (Some t) → (k : Hold) × (Some h ≡ Some k) × (k.txn ≡ t) × (k.dead ≡ false)
    by_test true d f = absurd (cc)
    by_test false d f = (h, refl, some_same f, d)

pub dead_is : (q : Option Hold) (t : ℕ) → dead_in q ≡ Some t → (h : Hold) × (q ≡ Some h) × (h.txn ≡ t) × (h.dead ≡ true)
dead_is None t e = absurd (cc)
dead_is (Some h) t e = by_test h.dead refl e
  where
    by_test : (b : Bool) → h.dead ≡ b → ◌≡◌ {A = Option ℕ} (if b then Some h.txn else None) (Some t) → (k : Hold) × (Some h ≡ Some k) × (k.txn ≡ t) × (k.dead ≡ true)
    by_test true d f = (h, refl, some_same f, d)
    by_test false d f = absurd (cc)

module _ (bases : Bases) (p : Point) (o : Outset) (begins : BeginsAt bases p o) (r : ℕ) (low : r < count_of o) where
  abbrev Told : History → Type 0
  Told T = (g : RegionState) → slice_get (core_told o T).regions r ≡ Some g → HoldIs o r g (plain T)

  start : Told []
  start g at = record {
    live = none_live g.hold (λ live. begins.between.rests.holds r g (ap (λ (c : CoreState). slice_get c.regions r) begins.core ∙ at) live);
    dead = ap (λ z. dead_in (hold_in z)) (sym at);
  }

  step : (A : History) (e : Line) → Follows bases p o A e → Told A → Told (A ++ e ∷ [])
  step A e f told g at = by_test (signs (region_note r) e.0) refl
    where
      by_test : (b : Bool) → signs (region_note r) e.0 ≡ b → HoldIs o r g (plain (A ++ e ∷ []))
      by_test true s = f.holds r g low s at
      by_test false s =
          let was : slice_get (core_told o A).regions r ≡ Some g =
          sym (region_left e.0 e.1.1 (core_told o A) r f.effect s) ∙ (sym (ap (λ (c : CoreState). slice_get c.regions r) (told_push o A e)) ∙ at) in
          let quiet : signs (region_note r) (notes_of (count_of o) e.1.0) ≡ false = not_signed (region_note r) (notes_of (count_of o) e.1.0) e.0 (f.fits.by (region_note r)) s in
          let is : HoldIs o r g (plain A) = told g was in
          record {
            live = is.live
                ∙ ap txn_in (sym (ap (live_by r) (plain-append A (e ∷ [])) ∙ (fold-append (live_step r) None (plain A) (plain_one e ∷ []) ∙ live_left (count_of o) r (live_by r (plain A)) (plain_one e) quiet)));
            dead = is.dead
                ∙ sym (ap (dead_by o r) (plain-append A (e ∷ []))
                ∙ (fold-append (dead_step r) (dead_in (hold_of o.old r)) (plain A) (plain_one e ∷ []) ∙ dead_left (count_of o) r (dead_by o r (plain A)) (plain_one e) quiet));
          }

  holds_there : (T : History) → AllFollow bases p o T → Told T
  holds_there T all = by_fronts (Follows bases p o) Told start (λ A e before f told. step A e f told) T all

pub old_count : (bases : Bases) (p : Point) (o : Outset) → BeginsAt bases p o → length o.old.regions ≡ count_of o
old_count bases p o begins = subst (λ (c : CoreState). length c.regions ≡ regions c.system.sizes) begins.core begins.whole.regions

pub holds_are_told : HoldsAreTold
holds_are_told bases p o T led r g at =
    let low : r < count_of o = omega (arith, slice_get_within (core_told o T).regions r g at, lengths o T, old_count bases p o led.begins) in
    (low, holds_there bases p o led.begins r low T led.all g at)

-- a hold of the core that is told
region_with : (q : Option RegionState) (h : Hold) → hold_in q ≡ Some h → (g : RegionState) × (q ≡ Some g) × (g.hold ≡ Some h)
region_with None h e = absurd (cc)
region_with (Some g) h e = (g, refl, e)

pub with_txn : (q : Option (ℕ × ℕ)) (t : ℕ) → txn_in q ≡ Some t → (c : ℕ) × (q ≡ Some (t, c))
with_txn None t e = absurd (cc)
with_txn (Some w) t e = (w.1, ap (λ z. Some (z, w.1)) (some_same e))

pub told_live : (bases : Bases) (p : Point) (o : Outset) (T : History) → IsLed bases p o T → (r : ℕ) (h : Hold) → hold_of (core_told o T) r ≡ Some h → h.dead ≡ false
    → (c : ℕ) × (live_by r (plain T) ≡ Some (h.txn, c))
told_live bases p o T led r h there live =
    let g = region_with (slice_get (core_told o T).regions r) h there in
    let is : HoldIs o r g.0 (plain T) = (holds_are_told bases p o T led r g.0 g.1).1 in
    with_txn (live_by r (plain T)) h.txn (sym is.live ∙ (ap live_in g.2 ∙ ap (λ b. if b then None else Some h.txn) live))

pub told_dead : (bases : Bases) (p : Point) (o : Outset) (T : History) → IsLed bases p o T → (r : ℕ) (h : Hold) → hold_of (core_told o T) r ≡ Some h → h.dead ≡ true
    → (r < count_of o) × (dead_by o r (plain T) ≡ Some h.txn)
told_dead bases p o T led r h there is_dead =
    let g = region_with (slice_get (core_told o T).regions r) h there in
    let is = holds_are_told bases p o T led r g.0 g.1 in
    (is.0, sym is.1.dead ∙ (ap dead_in g.2 ∙ ap (λ b. if b then Some h.txn else None) is_dead))

pub dead_there : (bases : Bases) (p : Point) (o : Outset) (T : History) → IsLed bases p o T → (r t : ℕ) → r < count_of o → dead_by o r (plain T) ≡ Some t
    → (h : Hold) × (hold_of (core_told o T) r ≡ Some h) × (h.txn ≡ t) × (h.dead ≡ true)
dead_there bases p o T led r t low told =
    let g = get_within (core_told o T).regions r (omega (arith, low, lengths o T, old_count bases p o led.begins)) in
    let is : HoldIs o r g.0 (plain T) = (holds_are_told bases p o T led r g.0 g.1).1 in
    let w = dead_is g.0.hold t (is.dead ∙ told) in
    (w.0, ap hold_in g.1 ∙ w.1, w.2, w.3)

-- ---- who acts
actor_push : (t : ℕ) (P : Entries) (p : List ℕ × Entry) → actor_by t (P ++ p ∷ []) ≡ actor_step t (actor_by t P) p
actor_push t P p = fold-append (actor_step t) None P (p ∷ [])

live_push : (r : ℕ) (P : Entries) (p : List ℕ × Entry) → live_by r (P ++ p ∷ []) ≡ live_step r (live_by r P) p
live_push r P p = fold-append (live_step r) None P (p ∷ [])

module _ (o : Outset) where
  abbrev OfActor : Entries → Type 0
  OfActor P = (r t c : ℕ) → live_by r P ≡ Some (t, c) → (r < count_of o) × (actor_by t P ≡ Some c)

  of_actor : (P : Entries) (p : List ℕ × Entry) → Fits o P p → OfActor P → (r t c : ℕ) → live_step r (live_by r P) p ≡ Some (t, c) → (r < count_of o) × (actor_step t (actor_by t P) p ≡ Some c)
  of_actor P (k, Did x d) fits q r t c h = was (is_on r x) h
    where
      acts : (x : Deed) → Fits o P (k, Did x d) → live_by r P ≡ Some (t, c) → actor_step t (actor_by t P) (k, Did x d) ≡ Some c
      acts (Logs (Begin u)) f l = by_test (u == t) refl
        where
          by_test : (b : Bool) → (u == t) ≡ b → (if b then Some d else actor_by t P) ≡ Some c
          by_test true e = absurd (f.fits.txn.1 r c (l ∙ ap (λ z. Some (z, c)) (sym (eqb-true u t e))))
          by_test false e = (q r t c l).1
      acts (Claims u) f l = by_test (u == t) refl
        where
          by_test : (b : Bool) → (u == t) ≡ b → (if b then Some d else actor_by t P) ≡ Some c
          by_test true e = absurd (f.fits.txn.1 r c (l ∙ ap (λ z. Some (z, c)) (sym (eqb-true u t e))))
          by_test false e = (q r t c l).1
      acts x f l = (q r t c l).1

      was : (b : Bool) → (if b then None else live_by r P) ≡ Some (t, c) → (r < count_of o) × (actor_step t (actor_by t P) (k, Did x d) ≡ Some c)
      was true e = absurd (cc)
      was false e = ((q r t c e).0, acts x fits e)
  of_actor P (k, Latched v u d) fits q r t c h = by_test (v == r) refl h
    where
      by_test : (b : Bool) → (v == r) ≡ b → (if b then Some (u, d) else live_by r P) ≡ Some (t, c) → (r < count_of o) × (actor_by t P ≡ Some c)
      by_test true e f =
          let same : (u, d) ≡ (t, c) = some_same f in
          (subst (λ z. z < count_of o) (eqb-true v r e) fits.fits.within, subst (λ (z : ℕ × ℕ). actor_by z.0 P ≡ Some z.1) same fits.fits.acts)
      by_test false e f = q r t c f
  of_actor P (k, Freed v d) fits q r t c h = by_test (v == r) h
    where
      by_test : (b : Bool) → (if b then None else live_by r P) ≡ Some (t, c) → (r < count_of o) × (actor_by t P ≡ Some c)
      by_test true f = absurd (cc)
      by_test false f = q r t c f
  of_actor P p fits q r t c h = q r t c h

pub hold_is_of_actor : HoldIsOfActor
hold_is_of_actor o P r t c good live = by_entries o (OfActor o) (λ r t c h. absurd (cc)) (λ P p before fits q r t c h.
    let w = of_actor o P p fits q r t c (sym (live_push r P p) ∙ h) in
    (w.0, actor_push t P p ∙ w.1)) P good r t c live

pub none_is_live : NoneIsLive
none_is_live bases p o T t led gone r c live = not_both_ways alive gone
  where
    low : r < count_of o
    low = (hold_is_of_actor o (plain T) r t c (fit_of bases p o T led.all) live).0

    g : (g : RegionState) × (slice_get (core_told o T).regions r ≡ Some g)
    g = get_within (core_told o T).regions r (omega (arith, low, lengths o T, old_count bases p o led.begins))

    held : (h : Hold) × (g.0.hold ≡ Some h) × (h.txn ≡ t) × (h.dead ≡ false)
    held = live_is g.0.hold t ((holds_are_told bases p o T led r g.0 g.1).1.live ∙ ap txn_in live)

    alive : is_alive (state_of (core_told o T).system t) ≡ true
    alive =
        let at = stands_of bases p o T led.begins led.all in
        let whole : IsWhole (core_told o T) = (told_is_whole bases p o T at.0 led.begins at.1).0 in
        subst (λ n. is_alive (state_of (core_told o T).system n) ≡ true) held.2 (whole.live r held.0 (ap hold_in g.1 ∙ held.1) held.3)

pub dead_is_named : DeadIsNamed
dead_is_named bases p o T r t led low told =
    let h = dead_there bases p o T led r t low told in
    let at = stands_of bases p o T led.begins led.all in
    let whole : IsWhole (core_told o T) = (told_is_whole bases p o T at.0 led.begins at.1).0 in
    subst (λ n. latched_in (state_of (core_told o T).system n) ≡ Some r) h.2 (whole.dead r h.0 h.1 h.3)

pub states_are_told : StatesAreTold
states_are_told bases p o T t led = let at = stands_of bases p o T led.begins led.all in at.1.tells.together.states t

pub runs_there : (bases : Bases) (p : Point) (o : Outset) (T : History) → IsLed bases p o T → RunsOn bases (log_by o (plain T)) (core_told o T)
runs_there bases p o T led = let at = stands_of bases p o T led.begins led.all in (told_is_whole bases p o T at.0 led.begins at.1).1

pub next_is_fresh : NextIsFresh
next_is_fresh bases p o T led =
    let y : SystemState = (core_told o T).system in
    let run : RunsOn bases (log_by o (plain T)) (core_told o T) = runs_there bases p o T led in
    ap state_in (subst (λ s. IsRow s (map.get y.table y.next)) (run.counts.fresh y.next (omega (arith, run.counts.next))) (run.table y.next))

pub next_may_begin : NextMayBegin
next_may_begin bases p o T y led is =
    let n : ℕ = (core_told o T).system.next in
    let fresh : state_of (core_told o T).system n ≡ None = next_is_fresh bases p o T led in
    subst (λ (z : SystemState). TxnFits o (plain T) (Logs (Begin z.next))) (sym is)
    (sym (states_are_told bases p o T n led) ∙ fresh, none_is_live bases p o T n led (ap is_alive fresh))

-- ---- entries of others
alive_there : (s : Option State) → is_alive s ≡ true → is_dead_in s ≡ true → ⊥
alive_there None a d = absurd (cc)
alive_there (Some (Dead latched)) a d = absurd (cc)
alive_there (Some Live) a d = absurd (cc)
alive_there (Some Committed) a d = absurd (cc)
alive_there (Some (Cleaning latched)) a d = absurd (cc)

not_none : (s : Option State) → is_alive s ≡ true → s ≡ None → ⊥
not_none None a e = absurd (cc)
not_none (Some s) a e = absurd (cc)

module _ (o : Outset) (t c : ℕ) where
  abbrev Stays : Entries → List ℕ × Entry → Type 0
  Stays P p = (actor_step t (actor_by t P) p ≡ Some c) × (fold (state_step t) (state_by o P t) (deeds_of (p ∷ [])) ≡ state_by o P t)

  by_deed : (P : Entries) (k : List ℕ) (x : Deed) (e : ℕ) → Fits o P (k, Did x e) → (e == c) ≡ false → actor_by t P ≡ Some c → is_alive (state_by o P t) ≡ true → Stays P (k, Did x e)
  by_deed P k (Logs (Begin u)) e f apart acts alive = by_test (u == t) refl
    where
      by_test : (b : Bool) → (u == t) ≡ b → ((if b then Some e else actor_by t P) ≡ Some c) × ((if b then Some Live else state_by o P t) ≡ state_by o P t)
      by_test true is = absurd (not_none (state_by o P t) alive (subst (λ z. state_by o P z ≡ None) (eqb-true u t is) f.fits.txn.0))
      by_test false is = (acts, refl)
  by_deed P k (Logs (Commit u)) e f apart acts alive = (acts, by_test (u == t) refl)
    where
      by_test : (b : Bool) → (u == t) ≡ b → (if b then Some Committed else state_by o P t) ≡ state_by o P t
      by_test true is = not_its e c apart (sym (f.fits.acts u refl) ∙ (ap (λ z. actor_by z P) (eqb-true u t is) ∙ acts))
      by_test false is = refl
  by_deed P k (Logs (Ended u)) e f apart acts alive = (acts, by_test (u == t) refl)
    where
      by_test : (b : Bool) → (u == t) ≡ b → (if b then None else state_by o P t) ≡ state_by o P t
      by_test true is = not_its e c apart (sym (f.fits.acts u refl) ∙ (ap (λ z. actor_by z P) (eqb-true u t is) ∙ acts))
      by_test false is = refl
  by_deed P k (DiesOn u r) e f apart acts alive = (acts, by_test (u == t) refl)
    where
      by_test : (b : Bool) → (u == t) ≡ b → (if b then Some (Dead (Some r)) else state_by o P t) ≡ state_by o P t
      by_test true is = not_its e c apart (sym (f.fits.acts u refl) ∙ (ap (λ z. actor_by z P) (eqb-true u t is) ∙ acts))
      by_test false is = refl
  by_deed P k (GivesBack u latched) e f apart acts alive = (acts, by_test (u == t) refl _)
    where
      by_test : (b : Bool) → (u == t) ≡ b → (s : Option State) → (if b then s else state_by o P t) ≡ state_by o P t
      by_test true is s = not_its e c apart (sym (f.fits.acts u refl) ∙ (ap (λ z. actor_by z P) (eqb-true u t is) ∙ acts))
      by_test false is s = refl
  by_deed P k (Claims u) e f apart acts alive = by_test (u == t) refl _
    where
      by_test : (b : Bool) → (u == t) ≡ b → (s : Option State) → ((if b then Some e else actor_by t P) ≡ Some c) × ((if b then s else state_by o P t) ≡ state_by o P t)
      by_test true is s = absurd (alive_there (state_by o P t) alive (subst (λ z. is_dead_in (state_by o P z) ≡ true) (eqb-true u t is) f.fits.txn.0))
      by_test false is s = (acts, refl)
  by_deed P k x e f apart acts alive = (acts, refl)

  by_entry : (P : Entries) (p : List ℕ × Entry) → Fits o P p → done_in c p ≡ None → actor_by t P ≡ Some c → is_alive (state_by o P t) ≡ true → Stays P p
  by_entry P (k, Did x e) f none acts alive = by_deed P k x e f (other e c (Does x) none) acts alive
  by_entry P p f none acts alive = (acts, refl)

  along : (R A : Entries) → AllFit o (A ++ R) → IdleIn c R → actor_by t A ≡ Some c → is_alive (state_by o A t) ≡ true → (actor_by t (A ++ R) ≡ Some c) × (state_by o (A ++ R) t ≡ state_by o A t)
  along [] A good idle acts alive = (ap (actor_by t) (append-nil A) ∙ acts, ap (λ P. state_by o P t) (append-nil A))
  along (p ∷ R) A good idle acts alive =
      let moved : A ++ p ∷ R ≡ (A ++ p ∷ []) ++ R = sym (append_assoc A (p ∷ []) R) in
      let one : Stays A p = by_entry A p (fits_next o A p R good) (idle zero p refl) acts alive in
      let state : state_by o (A ++ p ∷ []) t ≡ state_by o A t = deeds_push (state_step t) (state_of o.old.system t) A p ∙ one.1 in
      let rest = along R (A ++ p ∷ []) (subst (AllFit o) moved good) (λ i q e. idle (suc i) q e) (actor_push t A p ∙ one.0) (ap is_alive state ∙ alive) in
      (ap (actor_by t) moved ∙ rest.0, ap (λ P. state_by o P t) moved ∙ (rest.1 ∙ state))

pub actor_stays : ActorStays
actor_stays o t c seen new good is acts alive =
    let idle : IdleIn c is.rest = idle_of (count_of o) c is.rest (quiet_rest o new (client_note (count_of o) c) seen good is) in
    let w = along o t c is.rest seen (subst (AllFit o) is.all good) idle acts alive in
    (ap (actor_by t) is.all ∙ w.0, ap (λ P. state_by o P t) is.all ∙ w.1)

pub look_stays : LookStays
look_stays o c r seen new good own theirs look =
    let front = get_of_front seen own.rest look.place _ look.there in
    let same : take look.place new ≡ take look.place seen = ap (take look.place) own.all ∙ front.1 in
    record {
      place = look.place;
      notes = look.notes;
      txn = look.txn;
      there = ap (λ l. slice_get l look.place) own.all ∙ front.0;
      alone = ap (filter_map (done_in c)) own.all
          ∙ (picked_seen (count_of o) (client_note (count_of o) c) seen own.rest (quiet_rest o new (client_note (count_of o) c) seen good own) (done_in c) (not_done (count_of o) c)
          ∙ (look.alone ∙ ap (λ P. filter_map (done_in c) P ++ Latches r ∷ []) (sym same)));
      held = ap (filter_map (on_in r)) theirs.all
          ∙ (picked_seen (count_of o) (region_note r) seen theirs.rest (quiet_rest o new (region_note r) seen good theirs) (on_in r) (not_on_it (count_of o) r)
          ∙ (look.held ∙ ap (filter_map (on_in r)) (sym same)));
      live = ap (live_by r) theirs.all ∙ (folded_seen (count_of o) (region_note r) seen theirs.rest (quiet_rest o new (region_note r) seen good theirs) (live_step r) (live_left (count_of o) r) None ∙ look.live);
      right = λ check g at. subst (λ P. stray_after r g.stray (deeds_of P) ≡ 0) (sym same) (look.right check g at);
    }
