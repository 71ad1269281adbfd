-- Each step keeps a core whole.
use Rattle.std.proofs.Common.{◌≡◌, ◌≢◌, ℕ, ◌⊎◌, Bool, true, false, cond, Option, Some, None, refl, ap, sym, subst, ◌∙◌, inl, inr, ⊎_elim}
use Rattle.std.specs.Prelude.{◌==◌}
use Rattle.std.proofs.lemmas.Bool.{eqb-true, eq-eqb}
use Rattle.dali_lists.proofs.Options.{some_same}
use Rattle.dali_lists.proofs.Tests.{not_both_ways}
use Rattle.dali_region.specs.declared.Hold.{Hold}
use Rattle.dali_att.specs.declared.state.State.{State}
use Rattle.dali_att.specs.declared.state.State.TheVariants.{Live, Dead, Cleaning, Committed}
use Rattle.dali_runs.specs.State.{CoreState, hold_of}
use Rattle.dali_runs.specs.Regions.{is_alive}
use Rattle.dali_runs.specs.Keeps.{Latches, MayGiveBack}
use Rattle.dali_runs.specs.Wholes.{latched_in}

-- ---- holds and states
-- what a whole core's holds and states say of each other
pub record Agrees (H : ℕ → Option Hold) (S : ℕ → Option State) : Type 0 where
  pub dead : (r : ℕ) (h : Hold) → H r ≡ Some h → h.dead ≡ true → latched_in (S h.txn) ≡ Some r
  pub named : (t r : ℕ) → S t ≡ Some (Dead (Some r)) → (h : Hold) × (H r ≡ Some h) × (h.txn ≡ t) × (h.dead ≡ true)
  pub live : (r : ℕ) (h : Hold) → H r ≡ Some h → h.dead ≡ false → is_alive (S h.txn) ≡ true

-- the hold of one region is o now
abbrev pub OneHold : (H : ℕ → Option Hold) (r : ℕ) (o : Option Hold) (J : ℕ → Option Hold) → Type 0
OneHold H r o J = (q : ℕ) → ((q ≡ r) × (J q ≡ o)) ⊎ ((q ≢ r) × (J q ≡ H q))

-- the state of one transaction is o now
abbrev pub OneState : (S : ℕ → Option State) (t : ℕ) (o : Option State) (T : ℕ → Option State) → Type 0
OneState S t o T = (u : ℕ) → T u ≡ cond (t == u) o (S u)

-- what a hold may be, for these states
pub record FitsHold (S : ℕ → Option State) (r : ℕ) (o : Option Hold) : Type 0 where
  pub dead : (h : Hold) → o ≡ Some h → h.dead ≡ true → latched_in (S h.txn) ≡ Some r
  pub named : (t : ℕ) → S t ≡ Some (Dead (Some r)) → (h : Hold) × (o ≡ Some h) × (h.txn ≡ t) × (h.dead ≡ true)
  pub live : (h : Hold) → o ≡ Some h → h.dead ≡ false → is_alive (S h.txn) ≡ true

pub agrees_hold : (H J : ℕ → Option Hold) (S : ℕ → Option State) (r : ℕ) (o : Option Hold) → OneHold H r o J → FitsHold S r o → Agrees H S → Agrees J S
agrees_hold H J S r o one fits a = record {
  dead = λ q h e d. ⊎_elim
      (λ here. subst (λ z. latched_in (S h.txn) ≡ Some z) (sym here.0) (fits.dead h (sym here.1 ∙ e) d))
      (λ there. a.dead q h (sym there.1 ∙ e) d)
      (one q);
  named = λ t q e. ⊎_elim
      (λ here. let k = fits.named t (subst (λ z. S t ≡ Some (Dead (Some z))) here.0 e) in (k.0, here.1 ∙ k.1, k.2, k.3))
      (λ there. let k = a.named t q e in (k.0, there.1 ∙ k.1, k.2, k.3))
      (one q);
  live = λ q h e d. ⊎_elim
      (λ here. fits.live h (sym here.1 ∙ e) d)
      (λ there. a.live q h (sym there.1 ∙ e) d)
      (one q);
}

-- what a state may be, for these holds
pub record FitsState (H : ℕ → Option Hold) (t : ℕ) (o : Option State) : Type 0 where
  pub dead : (r : ℕ) (h : Hold) → H r ≡ Some h → h.txn ≡ t → h.dead ≡ true → latched_in o ≡ Some r
  pub named : (r : ℕ) → o ≡ Some (Dead (Some r)) → (h : Hold) × (H r ≡ Some h) × (h.txn ≡ t) × (h.dead ≡ true)
  pub live : (r : ℕ) (h : Hold) → H r ≡ Some h → h.txn ≡ t → h.dead ≡ false → is_alive o ≡ true

pub agrees_state : (H : ℕ → Option Hold) (S T : ℕ → Option State) (t : ℕ) (o : Option State) → OneState S t o T → FitsState H t o → Agrees H S → Agrees H T
agrees_state H S T t o one fits a = record {
  dead = λ r h e d. subst (λ z. latched_in z ≡ Some r) (sym (one h.txn)) (dead r h e d (t == h.txn) refl);
  named = λ u r e. named u r (t == u) refl (sym (one u) ∙ e);
  live = λ r h e d. subst (λ z. is_alive z ≡ true) (sym (one h.txn)) (live r h e d (t == h.txn) refl);
}
  where
    dead : (r : ℕ) (h : Hold) → H r ≡ Some h → h.dead ≡ true → (b : Bool) → (t == h.txn) ≡ b → latched_in (cond b o (S h.txn)) ≡ Some r
    dead r h e d true f = fits.dead r h e (sym (eqb-true t h.txn f)) d
    dead r h e d false f = a.dead r h e d

    named : (u r : ℕ) (b : Bool) → (t == u) ≡ b → cond b o (S u) ≡ Some (Dead (Some r)) → (h : Hold) × (H r ≡ Some h) × (h.txn ≡ u) × (h.dead ≡ true)
    named u r true f e = let k = fits.named r e in (k.0, k.1, k.2 ∙ eqb-true t u f, k.3)
    named u r false f e = a.named u r e

    live : (r : ℕ) (h : Hold) → H r ≡ Some h → h.dead ≡ false → (b : Bool) → (t == h.txn) ≡ b → is_alive (cond b o (S h.txn)) ≡ true
    live r h e d true f = fits.live r h e (sym (eqb-true t h.txn f)) d
    live r h e d false f = a.live r h e d

-- ---- the holds that a step on one region leaves
-- the same transaction's, dead or not as before
pub record IsLike (old new : Option Hold) : Type 0 where
  pub back : (h : Hold) → new ≡ Some h → (k : Hold) × (old ≡ Some k) × (k.txn ≡ h.txn) × (k.dead ≡ h.dead)
  pub on : (k : Hold) → old ≡ Some k → (h : Hold) × (new ≡ Some h) × (k.txn ≡ h.txn) × (k.dead ≡ h.dead)

pub fits_like : (H : ℕ → Option Hold) (S : ℕ → Option State) (r : ℕ) (o : Option Hold) → IsLike (H r) o → Agrees H S → FitsHold S r o
fits_like H S r o like a = record {
  dead = λ h e d. let k = like.back h e in subst (λ t. latched_in (S t) ≡ Some r) k.2 (a.dead r k.0 k.1 (k.3 ∙ d));
  named = λ t e. let k = a.named t r e in let h = like.on k.0 k.1 in (h.0, h.1, sym h.2 ∙ k.2, sym h.3 ∙ k.3);
  live = λ h e d. let k = like.back h e in subst (λ t. is_alive (S t) ≡ true) k.2 (a.live r k.0 k.1 (k.3 ∙ d));
}

no_hold : {h : Hold} → None ≡ Some h → ⊥
no_hold e = cc

same_hold : {o : Option Hold} {h k : Hold} → o ≡ Some h → o ≡ Some k → h ≡ k
same_hold e f = some_same (sym e ∙ f)

-- a hold that isn't dead ends
pub fits_ended : (H : ℕ → Option Hold) (S : ℕ → Option State) (r : ℕ) (k : Hold) → H r ≡ Some k → k.dead ≡ false → Agrees H S → FitsHold S r None
fits_ended H S r k at lives a = record {
  dead = λ h e d. absurd (no_hold e);
  named = λ t e. let q = a.named t r e in absurd (not_both_ways q.3 (ap (λ (z : Hold). z.dead) (same_hold q.1 at) ∙ lives));
  live = λ h e d. absurd (no_hold e);
}

-- one that is dead, of a transaction that is claimed
pub fits_recovered : (H : ℕ → Option Hold) (S : ℕ → Option State) (r : ℕ) (k : Hold) (was : Option ℕ) → H r ≡ Some k → S k.txn ≡ Some (Cleaning was) → Agrees H S → FitsHold S r None
fits_recovered H S r k was at claimed a = record {
  dead = λ h e d. absurd (no_hold e);
  named = λ t e. let q = a.named t r e in absurd (apart (sym e ∙ (ap S (sym q.2 ∙ ap (λ (z : Hold). z.txn) (same_hold q.1 at)) ∙ claimed)));
  live = λ h e d. absurd (no_hold e);
}
  where
    apart : Some (Dead (Some r)) ≡ Some (Cleaning was) → ⊥
    apart e = cc

-- a new one
pub fits_latched : (H : ℕ → Option Hold) (S : ℕ → Option State) (r : ℕ) (h : Hold) → H r ≡ None → h.dead ≡ false → is_alive (S h.txn) ≡ true → Agrees H S → FitsHold S r (Some h)
fits_latched H S r h free lives alive a = record {
  dead = λ k e d. absurd (not_both_ways d (ap (λ (z : Hold). z.dead) (sym (some_same e)) ∙ lives));
  named = λ t e. let q = a.named t r e in absurd (no_hold (sym free ∙ q.1));
  live = λ k e d. subst (λ (z : Hold). is_alive (S z.txn) ≡ true) (some_same e) alive;
}

-- ---- the states that a step on one row leaves
-- as they were
pub agrees_same : (H J : ℕ → Option Hold) (S T : ℕ → Option State) → ((q : ℕ) → J q ≡ H q) → ((u : ℕ) → T u ≡ S u) → Agrees H S → Agrees J T
agrees_same H J S T holds states a = record {
  dead = λ r h e d. subst (λ z. latched_in z ≡ Some r) (sym (states h.txn)) (a.dead r h (sym (holds r) ∙ e) d);
  named = λ t r e. let k = a.named t r (sym (states t) ∙ e) in (k.0, holds r ∙ k.1, k.2, k.3);
  live = λ r h e d. subst (λ z. is_alive z ≡ true) (sym (states h.txn)) (a.live r h (sym (holds r) ∙ e) d);
}

-- a transaction that is Live has no dead hold
none_dead : (H : ℕ → Option Hold) (S : ℕ → Option State) (t r : ℕ) (h : Hold) → Agrees H S → latched_in (S t) ≡ None → H r ≡ Some h → h.txn ≡ t → h.dead ≡ true → ⊥
none_dead H S t r h a none e is d = let named : latched_in (S t) ≡ Some r = subst (λ z. latched_in (S z) ≡ Some r) is (a.dead r h e d) in let gone : None ≡ Some r = sym none ∙ named in cc

-- one that isn't alive has no other hold
none_live : (H : ℕ → Option Hold) (S : ℕ → Option State) (t r : ℕ) (h : Hold) → Agrees H S → is_alive (S t) ≡ false → H r ≡ Some h → h.txn ≡ t → h.dead ≡ false → ⊥
none_live H S t r h a none e is d = not_both_ways (subst (λ z. is_alive (S z) ≡ true) is (a.live r h e d)) none

not_named : {r : ℕ} → Some Live ≡ Some (Dead (Some r)) → ⊥
not_named e = cc

pub fits_begun : (H : ℕ → Option Hold) (S : ℕ → Option State) (t : ℕ) → S t ≡ None → Agrees H S → FitsState H t (Some Live)
fits_begun H S t none a = record {
  dead = λ r h e is d. absurd (none_dead H S t r h a (ap latched_in none) e is d);
  named = λ r e. absurd (not_named e);
  live = λ r h e is d. refl;
}

pub fits_committed : (H : ℕ → Option Hold) (S : ℕ → Option State) (t : ℕ) → S t ≡ Some Live → Agrees H S → FitsState H t (Some Committed)
fits_committed H S t was a = record {
  dead = λ r h e is d. absurd (none_dead H S t r h a (ap latched_in was) e is d);
  named = λ r e. absurd (apart r e);
  live = λ r h e is d. refl;
}
  where
    apart : (r : ℕ) → Some Committed ≡ Some (Dead (Some r)) → ⊥
    apart r e = cc

pub fits_over : (H : ℕ → Option Hold) (t : ℕ) → ((r : ℕ) (h : Hold) → H r ≡ Some h → (h.txn == t) ≡ false) → FitsState H t None
fits_over H t free = record {
  dead = λ r h e is d. absurd (not_both_ways (eq-eqb h.txn t is) (free r h e));
  named = λ r e. absurd (apart r e);
  live = λ r h e is d. absurd (not_both_ways (eq-eqb h.txn t is) (free r h e));
}
  where
    apart : (r : ℕ) → None ≡ Some (Dead (Some r)) → ⊥
    apart r e = cc

pub fits_claimed : (H : ℕ → Option Hold) (S : ℕ → Option State) (t : ℕ) (was : Option ℕ) → S t ≡ Some (Dead was) → Agrees H S → FitsState H t (Some (Cleaning was))
fits_claimed H S t was at a = record {
  dead = λ r h e is d. sym (ap latched_in at) ∙ subst (λ z. latched_in (S z) ≡ Some r) is (a.dead r h e d);
  named = λ r e. absurd (apart r e);
  live = λ r h e is d. refl;
}
  where
    apart : (r : ℕ) → Some (Cleaning was) ≡ Some (Dead (Some r)) → ⊥
    apart r e = cc

-- the claim is given back: o is what is still latched
pub fits_given_back : (c : CoreState) (t : ℕ) (o : Option ℕ) → MayGiveBack c t o → FitsState (hold_of c) t (Some (Dead o))
fits_given_back c t o may = record {
  dead = λ r h e is d. may.left.only r h e is d;
  named = λ r e. may.left.held r (named r e);
  live = λ r h e is d. absurd (gone (may.idle.only r h e is d));
}
  where
    named : (r : ℕ) → Some (Dead o) ≡ Some (Dead (Some r)) → o ≡ Some r
    named r e = ap latched_in e

    gone : {r : ℕ} → None ≡ Some r → ⊥
    gone e = cc

-- ---- a death: the hold and the row change together
pub agrees_dead_none : (c : CoreState) (S T : ℕ → Option State) (t : ℕ) → S t ≡ Some Live → Latches c t false None → OneState S t (Some (Dead None)) T → Agrees (hold_of c) S → Agrees (hold_of c) T
agrees_dead_none c S T t lives latches one a = agrees_state (hold_of c) S T t (Some (Dead None)) one (record {
  dead = λ r h e is d. absurd (none_dead (hold_of c) S t r h a (ap latched_in lives) e is d);
  named = λ r e. absurd (apart r e);
  live = λ r h e is d. absurd (gone (latches.only r h e is d));
}) a
  where
    apart : (r : ℕ) → Some (Dead None) ≡ Some (Dead (Some r)) → ⊥
    apart r e = let f : None ≡ Some r = ap latched_in e in cc

    gone : {r : ℕ} → None ≡ Some r → ⊥
    gone e = cc

abbrev pub slain : Hold → Hold
slain h = record h { dead = true }

pub agrees_dead_some :
    (c : CoreState) (J : ℕ → Option Hold) (S T : ℕ → Option State) (t r : ℕ) (k : Hold) → S t ≡ Some Live → Latches c t false (Some r) → hold_of c r ≡ Some k → k.txn ≡ t
    → OneHold (hold_of c) r (Some (slain k)) J → OneState S t (Some (Dead (Some r))) T → Agrees (hold_of c) S
    → Agrees J T
agrees_dead_some c J S T t r k lives latches at mine holds states a = record { dead = dead; named = named; live = live }
  where
    dead : (q : ℕ) (h : Hold) → J q ≡ Some h → h.dead ≡ true → latched_in (T h.txn) ≡ Some q
    dead q h e d = subst (λ z. latched_in z ≡ Some q) (sym (states h.txn)) (⊎_elim here there (holds q))
      where
        here : (q ≡ r) × (J q ≡ Some (slain k)) → latched_in (cond (t == h.txn) (Some (Dead (Some r))) (S h.txn)) ≡ Some q
        here w =
            let same : slain k ≡ h = some_same (sym w.1 ∙ e) in
            let is : t ≡ h.txn = sym mine ∙ ap (λ (z : Hold). z.txn) same in
            rw (eq-eqb t h.txn is) (ap Some (sym w.0))

        there : (q ≢ r) × (J q ≡ hold_of c q) → latched_in (cond (t == h.txn) (Some (Dead (Some r))) (S h.txn)) ≡ Some q
        there w = by_test (t == h.txn) refl
          where
            by_test : (b : Bool) → (t == h.txn) ≡ b → latched_in (cond b (Some (Dead (Some r))) (S h.txn)) ≡ Some q
            by_test true f = absurd (none_dead (hold_of c) S t q h a (ap latched_in lives) (sym w.1 ∙ e) (sym (eqb-true t h.txn f)) d)
            by_test false f = a.dead q h (sym w.1 ∙ e) d

    named : (u q : ℕ) → T u ≡ Some (Dead (Some q)) → (h : Hold) × (J q ≡ Some h) × (h.txn ≡ u) × (h.dead ≡ true)
    named u q e = by_test (t == u) refl (sym (states u) ∙ e)
      where
        here : (q ≡ r) × (J q ≡ Some (slain k)) ⊎ ((q ≢ r) × (J q ≡ hold_of c q)) → q ≡ r → J q ≡ Some (slain k)
        here (inl w) is = w.1
        here (inr w) is = absurd (w.0 is)

        off : (q ≡ r) × (J q ≡ Some (slain k)) ⊎ ((q ≢ r) × (J q ≡ hold_of c q)) → q ≢ r → J q ≡ hold_of c q
        off (inl w) not = absurd (not w.0)
        off (inr w) not = w.1

        by_test : (b : Bool) → (t == u) ≡ b → cond b (Some (Dead (Some r))) (S u) ≡ Some (Dead (Some q)) → (h : Hold) × (J q ≡ Some h) × (h.txn ≡ u) × (h.dead ≡ true)
        by_test true f g = let is : Some r ≡ Some q = ap latched_in g in (slain k, here (holds q) (sym (some_same is)), mine ∙ eqb-true t u f, refl)
        by_test false f g =
            let h = a.named u q g in
            (h.0, off (holds q) (λ is. not_both_ways h.3 (ap (λ (z : Hold). z.dead) (same_hold (subst (λ z. hold_of c z ≡ Some h.0) is h.1) at) ∙ lived)) ∙ h.1, h.2, h.3)
          where
            lived : k.dead ≡ false
            lived = let w = latches.held r refl in ap (λ (z : Hold). z.dead) (same_hold at w.1) ∙ w.3

    live : (q : ℕ) (h : Hold) → J q ≡ Some h → h.dead ≡ false → is_alive (T h.txn) ≡ true
    live q h e d = subst (λ z. is_alive z ≡ true) (sym (states h.txn)) (⊎_elim here there (holds q))
      where
        here : (q ≡ r) × (J q ≡ Some (slain k)) → is_alive (cond (t == h.txn) (Some (Dead (Some r))) (S h.txn)) ≡ true
        here w = absurd (not_both_ways (ap (λ (z : Hold). z.dead) (some_same (sym e ∙ w.1)) ∙ refl) d)

        there : (q ≢ r) × (J q ≡ hold_of c q) → is_alive (cond (t == h.txn) (Some (Dead (Some r))) (S h.txn)) ≡ true
        there w = by_test (t == h.txn) refl
          where
            by_test : (b : Bool) → (t == h.txn) ≡ b → is_alive (cond b (Some (Dead (Some r))) (S h.txn)) ≡ true
            by_test true f = absurd (w.0 (sym (some_same (latches.only q h (sym w.1 ∙ e) (sym (eqb-true t h.txn f)) d))))
            by_test false f = a.live q h (sym w.1 ∙ e) d
