-- What a client knows behind a death, and behind what a dead client left was taken back.
use Rattle.std.proofs.Common.{◌≡◌, ℕ, ◌<◌, Bool, true, false, List, [], ◌∷◌, ◌++◌, Option, Some, None, refl, ap, sym, subst, ◌∙◌}
use Rattle.std.specs.Prelude.{◌==◌, if◌then◌else◌}
use Rattle.std.proofs.lemmas.List.Sums.{fold-append}
use Rattle.dali_lists.proofs.Numbers.{eqb-self}
use Rattle.dali_lists.proofs.Tests.{not_both_ways}
use Rattle.dali_runs.proofs.CountsLemmas.Lists.{some_same}
use Rattle.atomic_table.specs.Seated.{TableId}
use Rattle.dali_region.specs.State.{RegionState, dead, taken_back}
use Rattle.dali_att.specs.declared.state.State.TheVariants.{Live, Dead, Cleaning}
use Rattle.dali_runs.specs.State.{SystemState, state_of, hold_of}
use Rattle.dali_runs.specs.Steps.{in_state}
use Rattle.dali_runs.specs.Regions.{is_alive}
use Rattle.dali_runs.specs.Wholes.{latched_in}
use Rattle.dali_runs.specs.Run.{Bases}
use Rattle.dali_calls.specs.Plans.{Planned, is_back}
use Rattle.dali_crash.specs.Checkpoints.{Point}
use Rattle.dali_crash.specs.Traces.{Start, bases_of}
use Rattle.dali_notes.specs.History.{IsSeen, AllMay, MayAdd, Added}
use Rattle.dali_concurrent.specs.Entries.{Entries, client_note, region_note, live_by, live_step}
use Rattle.dali_concurrent.specs.Rules.{Outset, count_of, state_by, live_in, dead_in, dead_by, dead_step, NoneLive}
use Rattle.dali_concurrent.specs.Told.{Item, Line, History, plain, plain_one, core_told}
use Rattle.dali_concurrent.specs.Kept.{SystemTold, RegionTold}
use Rattle.dali_concurrent.specs.Holds.{IsLed}
use Rattle.dali_concurrent.proofs.Told.{plain-append, plain_seen}
use Rattle.dali_concurrent.proofs.Kept.{fit_of}
use Rattle.dali_concurrent.proofs.Holds.{states_are_told, actor_stays, dead_is_named}
use Rattle.dali_concurrent.proofs.Amid.{none_live_is_seen}
use Rattle.dali_concurrent.proofs.Own.{only_seen, only_stays}
use Rattle.dali_locked.specs.Begun.{Begun, outset, may_add, Of, LedFrom, Led}
use Rattle.dali_locked.specs.Sights.{ClientSight, SystemSight, RegionSight, Knows}
use Rattle.dali_locked.specs.Regions.{RegionKept, IsAmid}
use Rattle.dali_locked.specs.SystemSteps.{HasJust, MayGiveBack, Cleaning as IsCleaning}
use Rattle.dali_locked.specs.Dying.{dies_item, recovered_item, HasDied, IsIdle, NoneLeft, left_in}
use Rattle.dali_locked.proofs.SystemTelling.{state_push, actor_push}
use Rattle.dali_locked.proofs.RegionAdding.{led_on, told_on}
use Rattle.dali_locked.proofs.RegionMay.{own_hold}
use Rattle.dali_locked.proofs.RegionAmid.{amid_stays}
use Rattle.dali_locked.proofs.RegionCommit.{by_three}
use Rattle.dali_locked.proofs.DyingAdding.{InTwo, InThree, by_pair, two, two_may, two_behind, three, three_may, three_behind}
use Rattle.dali_locked.proofs.DyingLines.{dies_fits, dies_follows, dead_left, recovers_follows}

-- ---- a client dies
module _ (b : Begun) (client : ClientSight) (x : RegionSight) (t : TableId) (k : ℕ) (kept : RegionKept b t k x) (w : SystemSight) (system : Of b (λ o T. SystemTold o w.served.state T) w.seen) (plan : Planned) where
  abbrev pub died : Item
  died = dies_item client.id x.number plan.txn (dead x.region) (in_state w.served.state plan.txn (Dead (Some x.number)))

  pub dies_may : Knows b (IsAmid client.id x.number plan) client → is_back plan ≡ false → live_in x.region.hold ≡ Some plan.txn → state_of w.served.state plan.txn ≡ Some Live
      → MayAdd (may_add b) (three b client x t k kept w system) died
  dies_may knows onward held lives = three_may b client x t k kept w system died (λ s p each now hand.
      let o = outset b s p in
      let amid = amid_stays (bases_of s) p o client.id x.number plan x.region client.seen now hand.two.led hand.two.mine hand.two.told held (knows s p each) in
      dies_follows (bases_of s) p o now client.id x.number plan.txn x.region hand.two.led hand.two.told w.served.state hand.is lives held amid.only
      (dies_fits (bases_of s) p o now client.id x.number plan.txn x.region hand.two.led hand.two.told amid.acts.actor (amid.look onward)
      (own_hold (bases_of s) p o client.id plan.txn x.number x.region now hand.two.led hand.two.told amid.acts.actor held)))

  module _ (new : History) (added : Added (three b client x t k kept w system) died new) (all : AllMay (may_add b) new) where
    pub died_knows : Of b (HasDied plan.txn x.number) new
    died_knows = three_behind b client x t k kept w system died new added all (HasDied plan.txn x.number) (λ s p each now hand led.
        let o = outset b s p in
        let line : Line = (by_three (count_of o) client.id x.number, died) in
        record {
          state = state_push o now line plan.txn ∙ ap (λ z. if z then Some (Dead (Some x.number)) else state_by o (plain now) plan.txn) (eqb-self plan.txn);
          left = ap (dead_by o x.number) (plain-append now (line ∷ []))
              ∙ (fold-append (dead_step x.number) (dead_in (hold_of o.old x.number)) (plain now) (plain_one line ∷ []) ∙ ap (λ z. if z then Some plan.txn else dead_by o x.number (plain now)) (eqb-self x.number));
        })

    -- what it has stays
    pub died_keeps : (u v : Option ℕ) → Knows b (HasJust client.id u v) client → Of b (HasJust client.id u v) new
    died_keeps u v had = three_behind b client x t k kept w system died new added all (HasJust client.id u v) (λ s p each now hand led.
        let o = outset b s p in
        only_stays (bases_of s) p o now (by_three (count_of o) client.id x.number, died) client.id u v led refl
        (only_seen (bases_of s) p o client.seen now client.id u v hand.two.led hand.two.mine (had s p each)))

-- ---- a claim, while others go on
module _ (bases : Bases) (p : Point) (o : Outset) (c u : ℕ) (latched : Option ℕ) (seen now : History) (led : IsLed bases p o now) (mine : IsSeen now (client_note (count_of o) c) seen) where
  pub cleans_still : IsCleaning c u latched o seen → IsCleaning c u latched o now
  cleans_still at =
      let w = actor_stays o u c (plain seen) (plain now) (fit_of bases p o now led.all) (plain_seen now (client_note (count_of o) c) seen mine) at.actor (ap is_alive at.state) in
      record { actor = w.0; state = w.1 ∙ at.state }

  pub claimed_there : IsCleaning c u latched o now → state_of (core_told o now).system u ≡ Some (Cleaning latched)
  claimed_there at = states_are_told bases p o now u led ∙ at.state

  pub idle_still : IsCleaning c u latched o seen → IsIdle u o seen → IsIdle u o now
  idle_still at none = none_live_is_seen o u c (plain seen) (plain now) (fit_of bases p o now led.all) (plain_seen now (client_note (count_of o) c) seen mine) at.actor (ap is_alive at.state) none

-- a dead hold of it would be on that region
pub only_there : (bases : Bases) (p : Point) (o : Outset) (c u r q : ℕ) (now : History) → IsLed bases p o now → IsCleaning c u (Some r) o now → q < count_of o → dead_by o q (plain now) ≡ Some u → r ≡ q
only_there bases p o c u r q now led at low held =
    let named = dead_is_named bases p o now q u led low held in
    some_same (sym (ap latched_in (states_are_told bases p o now u led ∙ at.state)) ∙ named)

pub cleans_on : (b : Begun) (client : ClientSight) (u : ℕ) (latched : Option ℕ) (now : History) → Led b client.seen → Knows b (IsCleaning client.id u latched) client → AllMay (may_add b) now
    → IsSeen now (client_note b.count client.id) client.seen → Of b (IsCleaning client.id u latched) now
cleans_on b client u latched now led knows all mine s p each =
    let here : LedFrom b s p now = led_on b client.seen now led all s p each in
    cleans_still (bases_of s) p (outset b s p) client.id u latched client.seen now here.led (subst (λ n. IsSeen now (client_note n client.id) client.seen) (sym here.count) mine) (knows s p each)

pub idle_on : (b : Begun) (client : ClientSight) (u : ℕ) (latched : Option ℕ) (now : History) → Led b client.seen → Knows b (IsCleaning client.id u latched) client → Knows b (IsIdle u) client → AllMay (may_add b) now
    → IsSeen now (client_note b.count client.id) client.seen → Of b (IsIdle u) now
idle_on b client u latched now led knows idle all mine s p each =
    let here : LedFrom b s p now = led_on b client.seen now led all s p each in
    idle_still (bases_of s) p (outset b s p) client.id u latched client.seen now here.led (subst (λ n. IsSeen now (client_note n client.id) client.seen) (sym here.count) mine) (knows s p each) (idle s p each)

pub keeps_on : (b : Begun) (client : ClientSight) (u v : Option ℕ) (now : History) → Led b client.seen → AllMay (may_add b) now → IsSeen now (client_note b.count client.id) client.seen
    → Knows b (HasJust client.id u v) client → Of b (HasJust client.id u v) now
keeps_on b client u v now led all mine had s p each =
    let here : LedFrom b s p now = led_on b client.seen now led all s p each in
    only_seen (bases_of s) p (outset b s p) client.seen now client.id u v here.led (subst (λ n. IsSeen now (client_note n client.id) client.seen) (sym here.count) mine) (had s p each)

-- of a claimed transaction without a hold
clear_of : (b : Begun) (c u : ℕ) (latched : Option ℕ) (new : History) → Of b (IsCleaning c u latched) new → Of b (IsIdle u) new → Of b (NoneLeft u) new → Of b (MayGiveBack c u) new
clear_of b c u latched new cleans idle none s p each = record { latched = latched; cleans = cleans s p each; none_live = idle s p each; none_dead = none s p each }

-- ---- what it left is taken back
module _ (b : Begun) (client : ClientSight) (x : RegionSight) (t : TableId) (k : ℕ) (kept : RegionKept b t k x) (u : ℕ) (knows : Knows b (IsCleaning client.id u (Some x.number)) client) where
  abbrev recovered : Item
  recovered = recovered_item client.id x.number (taken_back x.region)

  pub recovers_may : left_in u x.region.hold ≡ true → MayAdd (may_add b) (two b client x t k kept) recovered
  recovers_may left = two_may b client x t k kept recovered (λ s p each now hand.
      let o = outset b s p in
      let at = cleans_still (bases_of s) p o client.id u (Some x.number) client.seen now hand.led hand.mine (knows s p each) in
      recovers_follows (bases_of s) p o now client.id x.number u x.region hand.led hand.told (Some x.number) at.actor (claimed_there (bases_of s) p o client.id u (Some x.number) client.seen now hand.led hand.mine at) left)

  module _ (new : History) (added : Added (two b client x t k kept) recovered new) (all : AllMay (may_add b) new) where
    behind : (s : Start) (p : Point) → b.each s p → (now : History) → InTwo (bases_of s) p (outset b s p) client.id client.seen x.number x.region now
        → IsCleaning client.id u (Some x.number) (outset b s p) (now ++ (by_pair (count_of (outset b s p)) client.id x.number, recovered) ∷ [])
    behind s p each now hand =
        let o = outset b s p in
        let line : Line = (by_pair (count_of o) client.id x.number, recovered) in
        let at = cleans_still (bases_of s) p o client.id u (Some x.number) client.seen now hand.led hand.mine (knows s p each) in
        record { actor = actor_push o now line u ∙ at.actor; state = state_push o now line u ∙ at.state }

    none_some : None ≡ Some u → ⊥
    none_some e = cc

    pub recovered_cleans : Of b (IsCleaning client.id u (Some x.number)) new
    recovered_cleans = two_behind b client x t k kept recovered new added all (IsCleaning client.id u (Some x.number)) (λ s p each now hand led. behind s p each now hand)

    none_left : Of b (NoneLeft u) new
    none_left = two_behind b client x t k kept recovered new added all (NoneLeft u) (λ s p each now hand led q low held.
        let o = outset b s p in
        let line : Line = (by_pair (count_of o) client.id x.number, recovered) in
        let here : x.number ≡ q = only_there (bases_of s) p o client.id u x.number q (now ++ line ∷ []) led (behind s p each now hand) low held in
        let none : dead_by o q (plain (now ++ line ∷ [])) ≡ None =
        ap (dead_by o q) (plain-append now (line ∷ [])) ∙ (fold-append (dead_step q) (dead_in (hold_of o.old q)) (plain now) (plain_one line ∷ []) ∙ (ap (λ z. if (x.number == z) then None else dead_by o q (plain now)) (sym here) ∙ ap (λ z. if z then None else dead_by o q (plain now)) (eqb-self x.number))) in
        none_some (sym none ∙ held))

    idle_left : Knows b (IsIdle u) client → Of b (IsIdle u) new
    idle_left idle = two_behind b client x t k kept recovered new added all (IsIdle u) (λ s p each now hand led q d live.
        let o = outset b s p in
        let line : Line = (by_pair (count_of o) client.id x.number, recovered) in
        let still : IsIdle u o now = idle_still (bases_of s) p o client.id u (Some x.number) client.seen now hand.led hand.mine (knows s p each) (idle s p each) in
        by_place now still q d (x.number == q) (sym (fold-append (live_step q) None (plain now) (plain_one line ∷ [])) ∙ (ap (live_by q) (sym (plain-append now (line ∷ []))) ∙ live)))
      where
        by_place : (now : History) → NoneLive (plain now) u → (q d : ℕ) (z : Bool) → (if z then None else live_by q (plain now)) ≡ Some (u, d) → ⊥
        by_place now still q d true f = cc
        by_place now still q d false f = still q d f

    pub recovered_clear : Knows b (IsIdle u) client → Of b (MayGiveBack client.id u) new
    recovered_clear idle = clear_of b client.id u (Some x.number) new recovered_cleans (idle_left idle) none_left

    pub recovered_keeps : (l v : Option ℕ) → Knows b (HasJust client.id l v) client → Of b (HasJust client.id l v) new
    recovered_keeps l v had = two_behind b client x t k kept recovered new added all (HasJust client.id l v) (λ s p each now hand led.
        let o = outset b s p in
        only_stays (bases_of s) p o now (by_pair (count_of o) client.id x.number, recovered) client.id l v led refl
        (only_seen (bases_of s) p o client.seen now client.id l v hand.led hand.mine (had s p each)))

  -- nothing is left there
  module _ (now : History) (all : AllMay (may_add b) now) (mine : IsSeen now (client_note b.count client.id) client.seen) (its : IsSeen now (region_note x.number) x.seen) where
    from : (s : Start) (p : Point) → b.each s p → LedFrom b s p now
    from s p each = led_on b x.seen now kept.led all s p each

    mine_there : (s : Start) (p : Point) → b.each s p → IsSeen now (client_note (count_of (outset b s p)) client.id) client.seen
    mine_there s p each = subst (λ n. IsSeen now (client_note n client.id) client.seen) (sym (from s p each).count) mine

    pub nothing_cleans : Of b (IsCleaning client.id u (Some x.number)) now
    nothing_cleans s p each = cleans_still (bases_of s) p (outset b s p) client.id u (Some x.number) client.seen now (from s p each).led (mine_there s p each) (knows s p each)

    pub nothing_clear : Knows b (IsIdle u) client → left_in u x.region.hold ≡ false → Of b (MayGiveBack client.id u) now
    nothing_clear idle none = clear_of b client.id u (Some x.number) now nothing_cleans
        (λ s p each. idle_still (bases_of s) p (outset b s p) client.id u (Some x.number) client.seen now (from s p each).led (mine_there s p each) (knows s p each) (idle s p each))
        (λ s p each q low held.
        let o = outset b s p in
        let here : x.number ≡ q = only_there (bases_of s) p o client.id u x.number q now (from s p each).led (nothing_cleans s p each) low held in
        let told : RegionTold o x.number x.region now = told_on b t k x now kept its all s p each in
        not_both_ways (dead_left u x.region.hold (told.hold.dead ∙ (ap (λ z. dead_by o z (plain now)) here ∙ held))) none)

    pub nothing_keeps : (l v : Option ℕ) → Knows b (HasJust client.id l v) client → Of b (HasJust client.id l v) now
    nothing_keeps l v had s p each = only_seen (bases_of s) p (outset b s p) client.seen now client.id l v (from s p each).led (mine_there s p each) (had s p each)
