-- A claim is given back with the region still latched.
use Rattle.std.proofs.Common.{◌≡◌, ℕ, zero, suc, ◌+◌, ◌<◌, Bool, true, false, List, [], ◌∷◌, ◌++◌, Option, Some, None, IsSomeAnd, refl, ap, sym, subst, ◌∙◌}
use Rattle.std.specs.Prelude.{slice_get, ◌==◌, ◌&&◌, if◌then◌else◌}
use Rattle.dali_lists.proofs.Numbers.{eqb-self}
use Rattle.dali_lists.proofs.Tests.{not_both_ways}
use Rattle.dali_runs.proofs.CountsLemmas.Lists.{some_same}
use Rattle.atomic_table.specs.Seated.{TableId}
use Rattle.dali_region.specs.declared.Hold.{Hold}
use Rattle.dali_region.specs.State.{RegionState}
use Rattle.dali_att.specs.declared.state.State.{State}
use Rattle.dali_att.specs.declared.state.State.TheVariants.{Live, Dead, Cleaning, Committed}
use Rattle.dali_runs.specs.State.{SystemState, CoreState, state_of}
use Rattle.dali_runs.specs.Steps.{in_state, audit_record}
use Rattle.dali_runs.specs.Run.{Bases}
use Rattle.dali_runs.specs.Keeps.{moves_to}
use Rattle.dali_runs.specs.Regions.{is_alive}
use Rattle.dali_runs.specs.Courses.{GivesBack as GivesItBack}
use Rattle.dali_crash.specs.Checkpoints.{StoreStep, Does, Point}
use Rattle.dali_crash.specs.Traces.{Start, bases_of}
use Rattle.dali_transcripts.specs.World.{Logs, GivesBack, is_claimed_in}
use Rattle.dali_notes.specs.History.{IsSeen, AllMay, MayAdd, Added, signs, signed_by}
use Rattle.dali_concurrent.specs.Entries.{Did, client_note, system_note, region_note, live_by, actor_by}
use Rattle.dali_concurrent.specs.Rules.{Outset, count_of, live_in, dead_in, dead_by, NoneLive, DeedFits}
use Rattle.dali_concurrent.specs.Told.{OnSystem, Item, Line, History, plain, plain_one, core_told}
use Rattle.dali_concurrent.specs.Kept.{is_silent, SystemTold, RegionTold, HoldIs, Follows, txn_in}
use Rattle.dali_concurrent.specs.Holds.{IsLed}
use Rattle.dali_concurrent.specs.Own.{HasOnly}
use Rattle.dali_concurrent.proofs.Told.{plain-append, plain_seen, told_push}
use Rattle.dali_concurrent.proofs.Cases.{gives_back_land}
use Rattle.dali_concurrent.proofs.Kept.{fit_of, system_meets}
use Rattle.dali_concurrent.proofs.Holds.{holds_are_told, states_are_told}
use Rattle.dali_concurrent.proofs.Amid.{none_live_is_seen}
use Rattle.dali_concurrent.proofs.Own.{gives_back_right, only_lets, only_seen}
use Rattle.dali_locked.specs.Begun.{Begun, outset, FromEach, may_add, Of, LedFrom, Led}
use Rattle.dali_locked.specs.Sights.{ClientSight, SystemSight, RegionSight, Knows}
use Rattle.dali_locked.specs.Regions.{op_region, is_operating, RegionKept}
use Rattle.dali_locked.specs.SystemSteps.{Cleaning as IsCleaning, HasJust}
use Rattle.dali_locked.specs.Dying.{gives_item, IsIdle, left_in}
use Rattle.dali_locked.proofs.RegionSigns.{signs_three, signs_one_of_three, signs_system}
use Rattle.dali_locked.proofs.RegionOps.{operation_stays}
use Rattle.dali_locked.proofs.RegionCommit.{by_three}
use Rattle.dali_locked.proofs.RegionLines.{hold_next}
use Rattle.dali_locked.proofs.RegionAdding.{led_on, passes_meet, passes_stay, kept_behind}
use Rattle.dali_locked.proofs.DyingAdding.{InTwo, InThree, three, three_may, three_behind}
use Rattle.dali_locked.proofs.DyingLines.{one_silent, left_dead}
use Rattle.dali_locked.proofs.DyingKnows.{cleans_still, idle_still, only_there}

no_verdict : (t r b : ℕ) (found : List ℕ) → GivesBack t (Some r) ≡ Logs (audit_record b found) → ⊥
no_verdict t r b [] e = cc
no_verdict t r b (q ∷ found) e = cc

pub claimed_is : (q : Option State) → is_claimed_in q ≡ true → (was : Option ℕ) × (q ≡ Some (Cleaning was))
claimed_is None e = absurd (cc)
claimed_is (Some Live) e = absurd (cc)
claimed_is (Some (Cleaning l)) e = (l, refl)
claimed_is (Some (Dead l)) e = absurd (cc)
claimed_is (Some Committed) e = absurd (cc)

pub claimed_moves : (q : Option State) (latched : Option ℕ) → is_claimed_in q ≡ true → IsSomeAnd q (λ s. moves_to s (Dead latched) ≡ true)
claimed_moves q latched e = let w = claimed_is q e in subst (λ z. IsSomeAnd z (λ s. moves_to s (Dead latched) ≡ true)) (sym w.1) refl

none_lives : (q : Option Hold) (t : ℕ) → left_in t q ≡ true → live_in q ≡ None
none_lives None t e = refl
none_lives (Some h) t e = by_test h.dead e
  where
    by_test : (b : Bool) → (b && (h.txn == t)) ≡ true → (if b then None else Some h.txn) ≡ None
    by_test true f = refl
    by_test false f = absurd (cc)

-- ---- the line
module _ (bases : Bases) (p : Point) (o : Outset) (now : History) (c r t : ℕ) (g : RegionState) (y : SystemState) (led : IsLed bases p o now) (told : RegionTold o r g now) (is : y ≡ (core_told o now).system) where
  abbrev z : SystemState
  z = in_state y t (Dead (Some r))

  abbrev line : Line
  line = (by_three (count_of o) c r, gives_item c r t z)

  pub gives_follows : (was : Option ℕ) → IsCleaning c t (Some r) o now → NoneLive (plain now) t → left_in t g.hold ≡ true → state_of y t ≡ Some (Cleaning was) → Follows bases p o now line
  gives_follows was at none left claimed =
      let dead : dead_by o r (plain now) ≡ Some t = sym told.hold.dead ∙ left_dead t g.hold left in
      let low : r < count_of o = (holds_are_told bases p o now led r g told.is).0 in
      let there : (q : ℕ) → Some r ≡ Some q → (q < count_of o) × (dead_by o q (plain now) ≡ Some t) =
      λ q e. subst (λ n. (n < count_of o) × (dead_by o n (plain now) ≡ Some t)) (some_same e) (low, dead) in
      record {
        fits = record {
          by = λ k h. h;
          fits = record {
            txn = tt;
            acts = λ u e. subst (λ n. actor_by n (plain now) ≡ Some c) (some_same e) at.actor;
            audited = λ n found e. absurd (no_verdict t r n found e);
            looked = λ q e. absurd (cc);
            held = dead;
          };
        };
        effect = signs_system (client_note (count_of o) c) r;
        lands = gives_back_land bases p o now (by_three (count_of o) c r) c t was (Some r) y is claimed led none there (λ q l e. ap Some (only_there bases p o c t r q now led at l e))
            (gives_back_right bases p o now c t was (Some r) y led is claimed at.actor there);
        silent = λ none. one_silent (Does (GivesItBack t (Some r))) refl;
        steps = refl;
        writes = refl;
        holds = λ q k l signed here.
            let same : r ≡ q = signs_one_of_three (count_of o) c r q l signed in
            let g_is : g ≡ k = some_same (sym behind ∙ (ap (λ n. slice_get (core_told o (now ++ line ∷ [])).regions n) same ∙ here)) in
            subst (λ n. HoldIs o n k (plain (now ++ line ∷ []))) same (subst (λ m. HoldIs o r m (plain (now ++ line ∷ []))) g_is
            (subst (HoldIs o r g) (sym (plain-append now (line ∷ []))) (hold_next o r g (plain now) (plain_one line)
            (none_lives g.hold t left ∙ ap (λ n. txn_in (if n then None else live_by r (plain now))) (sym (eqb-self r))) told.hold.dead)));
        checks = λ some. absurd (cc);
      }
    where
      behind : slice_get (core_told o (now ++ line ∷ [])).regions r ≡ Some g
      behind = ap (λ (d : CoreState). slice_get d.regions r) (told_push o now line) ∙ told.is

-- ---- wherever the round began
module _ (b : Begun) (client : ClientSight) (x : RegionSight) (tid : TableId) (k : ℕ) (kept : RegionKept b tid k x) (w : SystemSight) (system : Of b (λ o T. SystemTold o w.served.state T) w.seen) (t : ℕ) where
  abbrev pub item : Item
  item = gives_item client.id x.number t (in_state w.served.state t (Dead (Some x.number)))

  pub gives_may : Knows b (IsCleaning client.id t (Some x.number)) client → Knows b (IsIdle t) client → left_in t x.region.hold ≡ true → is_claimed_in (state_of w.served.state t) ≡ true
      → MayAdd (may_add b) (three b client x tid k kept w system) item
  gives_may knows none left claims = three_may b client x tid k kept w system item (λ s p each now hand.
      let o = outset b s p in
      let at = cleans_still (bases_of s) p o client.id t (Some x.number) client.seen now hand.two.led hand.two.mine (knows s p each) in
      let was = claimed_is (state_of w.served.state t) claims in
      gives_follows (bases_of s) p o now client.id x.number t x.region w.served.state hand.two.led hand.two.told hand.is was.0 at
      (idle_still (bases_of s) p o client.id t (Some x.number) client.seen now hand.two.led hand.two.mine (knows s p each) (none s p each))
      left was.1)

  pub gives_lets : (new : History) → Added (three b client x tid k kept w system) item new → AllMay (may_add b) new → (u : Option ℕ) → Knows b (HasJust client.id u (Some t)) client → Of b (HasJust client.id u None) new
  gives_lets new added all u had = three_behind b client x tid k kept w system item new added all (HasJust client.id u None) (λ s p each now hand led.
      let o = outset b s p in
      let ks = by_three (count_of o) client.id x.number in
      subst (λ P. HasOnly o P client.id u None) (sym (plain-append now ((ks, item) ∷ [])))
      (only_lets o (plain now) ks (Did (GivesBack t (Some x.number)) client.id) client.id t u (eqb-self t) (only_seen (bases_of s) p o client.seen now client.id u (Some t) hand.two.led hand.two.mine (had s p each))))

  -- the region is as it was
  pub gives_kept : (new : History) → Added (three b client x tid k kept w system) item new → AllMay (may_add b) new → RegionKept b tid k (record x { seen = new })
  gives_kept new added all =
      subst (λ T. RegionKept b tid k (record x { seen = T })) (sym added.2)
      (kept_behind b tid k x.steps x.audits x x.region added.0 (signed_by (three b client x tid k kept w system) item) kept added.1.1.1.0 (subst (AllMay (may_add b)) added.2 all) (signs_three (client_note b.count client.id) x.number) (λ c at. at)
      (operation_stays x.number x.steps x.region x.region x.seen added.0 (signed_by (three b client x tid k kept w system) item) kept.operation added.1.1.1.0 (nothing (signs (region_note x.number) (by_three b.count client.id x.number) && true)) (λ q under. under))
      (passes_stay x.number x.audits added.0 (signed_by (three b client x tid k kept w system) item) (λ a right e. cc) (passes_meet x.number x.audits x.seen added.0 added.1.1.1.0 kept.passed)))
    where
      nothing : (n : Bool) → ◌≡◌ {A = Option RegionState} (if n then None else None) None
      nothing true = refl
      nothing false = refl

-- where both have been met it is claimed
pub claimed_where : (b : Begun) (u : ℕ) (latched : Option ℕ) (client : ClientSight) (w : SystemSight) (now : History) → Led b client.seen → Of b (λ o T. SystemTold o w.served.state T) w.seen
    → Knows b (IsCleaning client.id u latched) client → AllMay (may_add b) now → IsSeen now (client_note b.count client.id) client.seen → IsSeen now system_note w.seen
    → is_claimed_in (state_of w.served.state u) ≡ false → FromEach b (λ s p. ⊥)
claimed_where b u latched client w now led system knows all mine theirs isnt s p each =
    let here : LedFrom b s p now = led_on b client.seen now led all s p each in
    let at = cleans_still (bases_of s) p (outset b s p) client.id u latched client.seen now here.led (subst (λ n. IsSeen now (client_note n client.id) client.seen) (sym here.count) mine) (knows s p each) in
    let is = system_meets (bases_of s) p (outset b s p) w.seen now w.served.state theirs here.led.all (system s p each) in
    not_both_ways (ap is_claimed_in (ap (λ (y : SystemState). state_of y u) is ∙ (states_are_told (bases_of s) p (outset b s p) now u here.led ∙ at.state))) isnt
