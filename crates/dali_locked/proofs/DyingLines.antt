-- The lines of a death, of what a dead client left taken back, and of a claim given back with its region latched: why each follows.
use Rattle.std.proofs.Common.{◌≡◌, ℕ, zero, suc, ◌<◌, Bool, true, false, List, [], ◌∷◌, ◌++◌, Option, Some, None, refl, ap, sym, subst, ◌∙◌, inr}
use Rattle.std.specs.Prelude.{slice_get, ◌==◌, ◌&&◌, if◌then◌else◌}
use Rattle.std.proofs.lemmas.Bool.{eqb-true, and_parts}
use Rattle.dali_lists.proofs.Lists.{get_set}
use Rattle.dali_lists.proofs.Numbers.{eqb-self}
use Rattle.dali_runs.proofs.CountsLemmas.Lists.{some_same}
use Rattle.dali_region.specs.declared.Hold.{Hold}
use Rattle.dali_region.specs.State.{RegionState, map_hold, dead, taken_back}
use Rattle.dali_att.specs.declared.state.State.TheVariants.{Live, Dead, Cleaning}
use Rattle.dali_runs.specs.State.{SystemState, CoreState, state_of}
use Rattle.dali_runs.specs.Steps.{in_state, audit_record}
use Rattle.dali_runs.specs.Run.{Bases}
use Rattle.dali_runs.specs.Courses.{Dies, Recovers}
use Rattle.dali_crash.specs.Checkpoints.{StoreStep, Does, Point}
use Rattle.dali_transcripts.specs.World.{Logs, DiesOn}
use Rattle.dali_concurrent.specs.Entries.{Did, Freed, client_note, live_by, actor_by}
use Rattle.dali_concurrent.specs.Rules.{Outset, count_of, live_in, dead_in, dead_by, LookFits, DeedFits}
use Rattle.dali_concurrent.specs.Told.{OnBoth, Line, History, plain, plain_one, core_told}
use Rattle.dali_concurrent.specs.Kept.{txn_in, is_silent, RegionTold, HoldIs, Follows}
use Rattle.dali_concurrent.specs.Holds.{IsLed}
use Rattle.dali_concurrent.proofs.Told.{plain-append, told_push}
use Rattle.dali_concurrent.proofs.Cases.{dies_land, recovers_land, look_is_made}
use Rattle.dali_concurrent.proofs.Kept.{fit_of}
use Rattle.dali_locked.specs.Dying.{dies_item, recovered_item, left_in}
use Rattle.dali_locked.proofs.RegionSigns.{signs_three, signs_one_of_three, signs_system}
use Rattle.dali_locked.proofs.RegionLines.{hold_next, region_line_follows}
use Rattle.dali_locked.proofs.RegionCommit.{by_three}
use Rattle.dali_locked.proofs.DyingAdding.{by_pair}

pub one_silent : (s : StoreStep) → is_silent s ≡ true → (i : ℕ) (x : StoreStep) → slice_get (s ∷ []) i ≡ Some x → is_silent x ≡ true
one_silent s h zero x e = subst (λ z. is_silent z ≡ true) (some_same e) h
one_silent s h (suc i) x e = absurd (cc)

-- ---- holds
dead_live : (q : Option Hold) → live_in (map_hold (λ h. record h { dead = true }) q) ≡ None
dead_live None = refl
dead_live (Some h) = refl

dead_dead : (q : Option Hold) (t : ℕ) → live_in q ≡ Some t → dead_in (map_hold (λ h. record h { dead = true }) q) ≡ Some t
dead_dead None t e = absurd (cc)
dead_dead (Some h) t e = by_test h.dead e
  where
    by_test : (b : Bool) → (if b then None else Some h.txn) ≡ Some t → Some h.txn ≡ Some t
    by_test true f = absurd (cc)
    by_test false f = f

pub left_is : (t : ℕ) (q : Option Hold) → left_in t q ≡ true → (h : Hold) × (q ≡ Some h) × (h.dead ≡ true) × (h.txn ≡ t)
left_is t None e = absurd (cc)
left_is t (Some h) e = let w = and_parts h.dead (h.txn == t) e in (h, refl, w.0, eqb-true h.txn t w.1)

pub left_dead : (t : ℕ) (q : Option Hold) → left_in t q ≡ true → dead_in q ≡ Some t
left_dead t q e = let w = left_is t q e in ap dead_in w.1 ∙ (ap (λ b. if b then Some w.0.txn else None) w.2 ∙ ap Some w.3)

pub dead_left : (t : ℕ) (q : Option Hold) → dead_in q ≡ Some t → left_in t q ≡ true
dead_left t None e = absurd (cc)
dead_left t (Some h) e = by_test h.dead e
  where
    by_test : (b : Bool) → (if b then Some h.txn else None) ≡ Some t → (b && (h.txn == t)) ≡ true
    by_test true f = ap (λ n. h.txn == n) (sym (some_same f)) ∙ eqb-self h.txn
    by_test false f = absurd (cc)

-- ---- a client dies
no_verdict_dies : (t r b : ℕ) (found : List ℕ) → DiesOn t r ≡ Logs (audit_record b found) → ⊥
no_verdict_dies t r b [] e = cc
no_verdict_dies t r b (q ∷ found) e = cc

module _ (bases : Bases) (p : Point) (o : Outset) (now : History) (c r t : ℕ) (g : RegionState) (led : IsLed bases p o now) (told : RegionTold o r g now) where
  pub dies_fits : actor_by t (plain now) ≡ Some c → LookFits o (plain now) c r → live_by r (plain now) ≡ Some (t, c) → DeedFits o (plain now) (DiesOn t r) c
  dies_fits acts look held = record {
    txn = tt;
    acts = λ u e. subst (λ n. actor_by n (plain now) ≡ Some c) (some_same e) acts;
    audited = λ n found e. absurd (no_verdict_dies t r n found e);
    looked = λ q e. subst (LookFits o (plain now) c) (eqb-true r q e) look;
    held = held;
  }

  module _ (y : SystemState) (is : y ≡ (core_told o now).system) where
    abbrev dies_line : Line
    dies_line = (by_three (count_of o) c r, dies_item c r t (dead g) (in_state y t (Dead (Some r))))

    pub dies_follows : state_of y t ≡ Some Live → live_in g.hold ≡ Some t → ((q d : ℕ) → live_by q (plain now) ≡ Some (t, d) → r ≡ q) → DeedFits o (plain now) (DiesOn t r) c
        → Follows bases p o now dies_line
    dies_follows lives held only fits = record {
      fits = record { by = λ k h. h; fits = fits };
      effect = (signs_three (client_note (count_of o) c) r, signs_system (client_note (count_of o) c) r);
      lands = dies_land bases p o now (by_three (count_of o) c r) c t r y g is told.is lives held led only (look_is_made o now c (DiesOn t r) (fit_of bases p o now led.all) fits);
      silent = λ none. one_silent (Does (Dies t (Some r))) refl;
      steps = refl;
      writes = ap (λ n. n && true) (eqb-self r);
      holds = λ q k low signed at.
          let here : r ≡ q = signs_one_of_three (count_of o) c r q low signed in
          let same : dead g ≡ k = some_same (sym behind ∙ (ap (λ n. slice_get (core_told o (now ++ dies_line ∷ [])).regions n) here ∙ at)) in
          subst (λ n. HoldIs o n k (plain (now ++ dies_line ∷ []))) here (subst (λ h. HoldIs o r h (plain (now ++ dies_line ∷ []))) same
          (subst (HoldIs o r (dead g)) (sym (plain-append now (dies_line ∷ []))) (hold_next o r (dead g) (plain now) (plain_one dies_line)
          (dead_live g.hold ∙ ap (λ n. txn_in (if n then None else live_by r (plain now))) (sym (eqb-self r)))
          (dead_dead g.hold t held ∙ ap (λ n. if n then Some t else dead_by o r (plain now)) (sym (eqb-self r))))));
      checks = λ some. absurd (cc);
    }
      where
        behind : slice_get (core_told o (now ++ dies_line ∷ [])).regions r ≡ Some (dead g)
        behind = ap (λ (d : CoreState). slice_get d.regions r) (told_push o now dies_line) ∙ get_set (core_told o now).regions r g (dead g) told.is

  -- ---- what it left is taken back
  pub recovers_follows : (latched : Option ℕ) → actor_by t (plain now) ≡ Some c → state_of (core_told o now).system t ≡ Some (Cleaning latched) → left_in t g.hold ≡ true
      → Follows bases p o now (by_pair (count_of o) c r, recovered_item c r (taken_back g))
  recovers_follows latched acts claimed left =
      let w = left_is t g.hold left in
      region_line_follows bases p o now c r g (taken_back g) (Freed r c) (Does (Recovers r) ∷ []) (record {
        there = told.is;
        by = λ k h. h;
        fits = record { txn = t; acts = acts; held = inr (sym told.hold.dead ∙ left_dead t g.hold left) };
        lands = recovers_land bases p o now (by_pair (count_of o) c r) (Freed r c) r g refl told.is (record {
          hold = w.0;
          at = w.1;
          dead = w.2;
          latched = latched;
          claimed = ap (state_of (core_told o now).system) w.3 ∙ claimed;
        });
        silent = one_silent (Does (Recovers r)) refl;
        steps = inr refl;
        writes = ap (λ b. b && true) (eqb-self r);
        core = refl;
        live = ap (λ b. txn_in (if b then None else live_by r (plain now))) (sym (eqb-self r));
        dead = ap (λ b. if b then None else dead_by o r (plain now)) (sym (eqb-self r));
      })
