-- The core of a closed round is at rest.
use Rattle.std.proofs.Common.{◌≡◌, ℕ, zero, suc, ◌<◌, Bool, true, false, List, [], ◌∷◌, Option, Some, None, IfSome, IsSome, IsSomeAnd, refl, ap, sym, subst, ◌∙◌, ◌⊎◌, inl, inr, ⊎_elim, arith}
use Rattle.std.specs.Prelude.{slice_get, fold, ◌==◌, ◌||◌, if◌then◌else◌, is_some}
use Rattle.std.proofs.lemmas.Option.{slice_get_within}
use Rattle.std.proofs.lemmas.Bool.{eqb-true}
use Rattle.dali_runs.proofs.CountsLemmas.Lists.{some_same}
use Rattle.dali_lists.proofs.Tests.{not_both_ways}
use Rattle.dali_region.specs.declared.Hold.{Hold}
use Rattle.dali_region.specs.State.{RegionState}
use Rattle.dali_att.specs.declared.state.State.{State}
use Rattle.dali_runs.specs.declared.causes.Cause.{Cause}
use Rattle.dali_runs.specs.State.{SystemState, CoreState, state_of}
use Rattle.dali_runs.specs.Run.{Bases}
use Rattle.dali_crash.specs.Checkpoints.{Point}
use Rattle.dali_transcripts.specs.World.{Deed, Claims, state_step, claimer_step, is_claimed_in, under_way}
use Rattle.dali_transcripts.specs.Rounds.{Standing, IsAtRest}
use Rattle.dali_notes.specs.History.{signs, IsSeen}
use Rattle.dali_concurrent.specs.Entries.{Entry, Did, Entries, client_note, notes_of, deeds_of, done_by, done_in, live_by, opener_by}
use Rattle.dali_concurrent.specs.Rules.{Outset, count_of, state_by, live_in, AllFit}
use Rattle.dali_concurrent.specs.Told.{History, plain, core_told}
use Rattle.dali_concurrent.specs.Landing.{BeginsAt, Stands}
use Rattle.dali_concurrent.specs.Kept.{txn_in, RegionTold}
use Rattle.dali_concurrent.specs.Clients.{is_open_in, is_within, ClientTold}
use Rattle.dali_concurrent.specs.Closed.{Closed, ValuesTold, ClientsTold, NoneHolds}
use Rattle.dali_concurrent.proofs.Entries.{IdleIn, not_done, picked_seen}
use Rattle.dali_concurrent.proofs.Fitting.{quiet_rest}
use Rattle.dali_concurrent.proofs.Told.{at_plain, plain_seen}
use Rattle.dali_concurrent.proofs.Holds.{with_txn}
use Rattle.dali_concurrent.proofs.Opened.{opened, open_back}
use Rattle.dali_concurrent.proofs.Clients.{none_there, live_back, span_back, claim_back, claimed_before}
use Rattle.dali_concurrent.proofs.Closed.{fit, region_is, regions_are, client_is}

-- one of the clients, or none
pub of_these : (ss : List Standing) (d : ℕ) → ((i : ℕ) × (s : Standing) × (slice_get ss i ≡ Some s) × (s.client ≡ d)) ⊎ ((i : ℕ) (s : Standing) → slice_get ss i ≡ Some s → (s.client == d) ≡ false)
of_these [] d = inr (λ i s e. absurd (cc))
of_these (s ∷ ss) d = by_test (s.client == d) refl (of_these ss d)
  where
    by_test : (b : Bool) → (s.client == d) ≡ b → ((i : ℕ) × (u : Standing) × (slice_get ss i ≡ Some u) × (u.client ≡ d)) ⊎ ((i : ℕ) (u : Standing) → slice_get ss i ≡ Some u → (u.client == d) ≡ false)
        → ((i : ℕ) × (u : Standing) × (slice_get (s ∷ ss) i ≡ Some u) × (u.client ≡ d)) ⊎ ((i : ℕ) (u : Standing) → slice_get (s ∷ ss) i ≡ Some u → (u.client == d) ≡ false)
    by_test true is later = inl (zero, s, refl, eqb-true s.client d is)
    by_test false is (inl w) = inl (suc w.0, w.1, w.2, w.3)
    by_test false is (inr none) = inr at
      where
        at : (i : ℕ) (u : Standing) → slice_get (s ∷ ss) i ≡ Some u → (u.client == d) ≡ false
        at zero u e = subst (λ (z : Standing). (z.client == d) ≡ false) (some_same e) is
        at (suc i) u e = none i u e

-- who is claimed was claimed in the round
has_claimer : (t : ℕ) (R : Entries) (k : Option ℕ) (s : Option State) → (is_claimed_in s ≡ true → is_some k ≡ true) → is_claimed_in (fold (state_step t) s (deeds_of R)) ≡ true → is_some (fold (claimer_step t) k (deeds_of R)) ≡ true
has_claimer t [] k s h e = h e
has_claimer t ((m, Did x u) ∷ R) k s h e = has_claimer t R (claimer_step t k (x, u)) (state_step t s (x, u)) (one x) e
  where
    one : (x : Deed) → is_claimed_in (state_step t s (x, u)) ≡ true → is_some (claimer_step t k (x, u)) ≡ true
    one (Claims v) f = by_test (v == t) refl
      where
        by_test : (b : Bool) → (v == t) ≡ b → is_some (if b then Some u else k) ≡ true
        by_test true is = refl
        by_test false is = h (claimed_before t (Claims v) u s (λ w same. let eq : v ≡ w = (let q : Claims v ≡ Claims w = same in cc) in subst (λ z. (z == t) ≡ false) eq is) f)
    one x f = h (claimed_before t x u s (λ w same. absurd (cc)) f)
has_claimer t (p ∷ R) k s h e = has_claimer t R k s h e

some_is : {X : Type 0} (q : Option X) → is_some q ≡ true → (d : X) × (q ≡ Some d)
some_is None e = absurd (cc)
some_is (Some d) e = (d, refl)

module _ (bases : Bases) (p : Point) (o : Outset) (T : History) (closed : Closed bases p o T) (ss : List Standing) (clients : ClientsTold bases p o T closed ss) (begins : BeginsAt bases p o) where
  ok : AllFit o (plain T)
  ok = fit bases p o T closed

  abbrev n : ℕ
  n = count_of o

  -- a client that isn't one of these did nothing
  pub others_idle : (d : ℕ) → ((i : ℕ) (s : Standing) → slice_get ss i ≡ Some s → (s.client == d) ≡ false) → IdleIn d (plain T)
  others_idle d none i e at = by_test (signs (client_note n d) (notes_of n e.1)) refl
    where
      by_test : (b : Bool) → signs (client_note n d) (notes_of n e.1) ≡ b → done_in d e ≡ None
      by_test false h = not_done n d e h
      by_test true h = none_there (done_in d) (plain T) i e empty at
        where
          low : client_note n d < closed.count
          low =
              let line = at_plain T i e at in
              closed.numbered line.0 (i, line.1) (client_note n d) (subst (λ (z : List ℕ × Entry). signs (client_note n d) z.0 ≡ true) (sym line.2) ((ok i e at).by (client_note n d) h))

          empty : done_by d (plain T) ≡ []
          empty =
              let is : IsSeen (plain T) (client_note n d) (plain (closed.seen (client_note n d))) = plain_seen T (client_note n d) (closed.seen (client_note n d)) (closed.is (client_note n d) low) in
              let quiet = quiet_rest o (plain T) (client_note n d) (plain (closed.seen (client_note n d))) ok is in
              ap (done_by d) is.all ∙ (picked_seen n (client_note n d) (plain (closed.seen (client_note n d))) is.rest quiet (done_in d) (not_done n d) ∙ clients.others d low none)

  told : (i : ℕ) (s : Standing) → slice_get ss i ≡ Some s → ClientTold o s T
  told i s at = client_is bases p o T closed ss clients begins i s at

  -- so none of them is in the way
  pub no_one : (P : ℕ → Type 0) → ((i : ℕ) (s : Standing) → slice_get ss i ≡ Some s → P s.client) → ((d : ℕ) → IdleIn d (plain T) → P d) → (d : ℕ) → P d
  no_one P these rest d = ⊎_elim (λ w. subst P w.3 (these w.0 w.1 w.2)) (λ none. rest d (others_idle d none)) (of_these ss d)

  -- none has a hold that is live, a checkpoint under way, or a claim
  pub none_live : (r t : ℕ) → txn_in (live_by r (plain T)) ≡ Some t → ⊥
  none_live r t e =
      let who = with_txn (live_by r (plain T)) t e in
      no_one (λ d. live_by r (plain T) ≡ Some (t, d) → ⊥) (λ i s at. (told i s at).holds r t)
      (λ d quiet is. let f : None ≡ Some (t, d) = live_back r t d (plain T) None quiet is in absurd (cc)) who.0 who.1

  pub none_spans : is_some (under_way (deeds_of (plain T))) ≡ false
  none_spans = by_test (under_way (deeds_of (plain T))) refl
    where
      by_test : (q : Option ℕ) → under_way (deeds_of (plain T)) ≡ q → is_some q ≡ false
      by_test None e = refl
      by_test (Some d) e = absurd (no_one (λ d. under_way (deeds_of (plain T)) ≡ Some d → ⊥) (λ i s at. (told i s at).spans)
          (λ d quiet is. let f : None ≡ Some d = span_back d (plain T) None quiet is in absurd (cc)) d e)

  pub none_claims : (t : ℕ) → is_claimed_in (state_of o.old.system t) ≡ false → is_claimed_in (state_by o (plain T) t) ≡ false
  none_claims t free = by_test (is_claimed_in (state_by o (plain T) t)) refl
    where
      by_test : (b : Bool) → is_claimed_in (state_by o (plain T) t) ≡ b → b ≡ false
      by_test false e = refl
      by_test true e =
          let who = some_is (fold (claimer_step t) None (deeds_of (plain T))) (has_claimer t (plain T) None (state_of o.old.system t) (λ was. absurd (not_both_ways was free)) e) in
          absurd (not_both_ways e (no_one (λ d. fold (claimer_step t) None (deeds_of (plain T)) ≡ Some d → is_claimed_in (state_by o (plain T) t) ≡ false) (λ i s at. (told i s at).claims t)
          (λ d quiet is. let f : None ≡ Some d = (claim_back t d (plain T) None (state_of o.old.system t) quiet is e).0 in absurd (cc)) who.0 who.1))

  -- what is open is what a client is within, or the engine is stopped
  pub none_open : (t : ℕ) → is_open_in (state_of o.old.system t) ≡ false
      → ((i : ℕ) (s : Standing) → slice_get ss i ≡ Some s → (is_within t s.spot.place || is_some (core_told o T).system.stop) ≡ false) → is_open_in (state_by o (plain T) t) ≡ false
  none_open t shut out = by_test (is_open_in (state_by o (plain T) t)) refl
    where
      by_test : (b : Bool) → is_open_in (state_by o (plain T) t) ≡ b → b ≡ false
      by_test false e = refl
      by_test true e =
          let who = some_is (opener_by t (plain T)) (opened o t (plain T) ok shut e) in
          absurd (no_one (λ d. opener_by t (plain T) ≡ Some d → ⊥)
          (λ i s at began. not_both_ways ((told i s at).opened t began e) (out i s at))
          (λ d quiet began. let f : None ≡ Some d = (open_back o t d (plain T) [] ok quiet began e).0 in absurd (cc)) who.0 who.1)

live_txn : (q : Option Hold) → IsSomeAnd q (λ (h : Hold). h.dead ≡ false) → (t : ℕ) × (live_in q ≡ Some t)
live_txn None live = absurd live
live_txn (Some h) live = (h.txn, ap (λ b. if b then None else Some h.txn) live)

pub none_holds : NoneHolds
none_holds bases p o T closed gs y ss values clients begins r g at = dead g.hold refl
  where
    is : RegionTold o r g T
    is = region_is bases p o T closed gs y values r g (omega (arith, slice_get_within gs r g at, values.whole)) at

    alive : (h : Hold) → g.hold ≡ Some h → h.dead ≡ false → ⊥
    alive h e live = none_live bases p o T closed ss clients begins r h.txn (sym is.hold.live ∙ (ap live_in e ∙ ap (λ b. if b then None else Some h.txn) live))

    dead : (q : Option Hold) → g.hold ≡ q → IfSome q (λ h. h.dead ≡ true)
    dead None e = tt
    dead (Some h) e = by_test h.dead refl
      where
        by_test : (b : Bool) → h.dead ≡ b → h.dead ≡ true
        by_test true f = f
        by_test false f = absurd (alive h e f)

-- the core is at rest
pub at_rest : (bases : Bases) (p : Point) (o : Outset) (T : History) (closed : Closed bases p o T) (gs : List RegionState) (y : SystemState) (ss : List Standing)
    → ValuesTold bases p o T closed gs y → ClientsTold bases p o T closed ss → BeginsAt bases p o → (to : Point) → Stands bases p o T to → IsAtRest to.core
at_rest bases p o T closed gs y ss values clients begins to at = record {
  stopped = λ e. has_stopped to.core.system.stop (at.halts e);
  holds = λ r g there live.
      let same : (core_told o T).regions ≡ gs = regions_are bases p o T closed gs y values in
      let here : slice_get gs r ≡ Some g = ap (λ l. slice_get l r) (sym (ap (λ (c : CoreState). c.regions) at.comes.core ∙ same)) ∙ there in
      let is = region_is bases p o T closed gs y values r g (omega (arith, slice_get_within gs r g here, values.whole)) here in
      let t = live_txn g.hold live in
      none_live bases p o T closed ss clients begins r t.0 (sym is.hold.live ∙ t.1);
  flag = ap (λ (c : CoreState). c.system.checking) at.comes.core ∙ (at.tells.flag ∙ none_spans bases p o T closed ss clients begins);
  free = λ t. ap (λ (c : CoreState). is_claimed_in (state_of c.system t)) at.comes.core
      ∙ (ap is_claimed_in (at.tells.together.states t) ∙ none_claims bases p o T closed ss clients begins t (subst (λ (c : CoreState). is_claimed_in (state_of c.system t) ≡ false) begins.core (begins.between.rests.free t)));
}
  where
    has_stopped : (s : Option Cause) → IsSome s → (cause : Cause) × (s ≡ Some cause)
    has_stopped None h = absurd (cc)
    has_stopped (Some cause) h = (cause, refl)
