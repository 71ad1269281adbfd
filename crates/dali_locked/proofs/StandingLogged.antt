-- An operation of a transaction that stands so is logged on the region and by the system in hand, wherever the round began.
use Rattle.std.proofs.Common.{◌≡◌, ℕ, ◌+◌, Bool, List, [], ◌∷◌, ◌++◌, Option, Some, None, refl, ap, sym, subst, ◌∙◌}
use Rattle.std.specs.Prelude.{slice_get, slice_set}
use Rattle.atomic_table.specs.Seated.{TableId}
use Rattle.dali_lists.proofs.Lists.{get_set}
use Rattle.dali_record.specs.declared.records.Record.{Record}
use Rattle.dali_record.specs.Legal.{TxnState}
use Rattle.dali_region.specs.State.{RegionState, touched}
use Rattle.dali_att.specs.declared.state.State.{State}
use Rattle.dali_runs.specs.State.{SystemState, CoreState}
use Rattle.dali_runs.specs.Run.{Bases}
use Rattle.dali_crash.specs.Checkpoints.{StoreStep, Point}
use Rattle.dali_crash.specs.Traces.{Start, bases_of}
use Rattle.dali_transcripts.specs.World.{Logs}
use Rattle.dali_notes.specs.History.{IsSeen, AllMay, MayAdd, Added}
use Rattle.dali_concurrent.specs.Entries.{Did, Passed, system_note, region_note, client_note}
use Rattle.dali_concurrent.specs.Rules.{Outset, count_of}
use Rattle.dali_concurrent.specs.Told.{OnBoth, Item, History, effect_on, core_told}
use Rattle.dali_concurrent.specs.Kept.{SystemTold, RegionTold, Follows}
use Rattle.dali_concurrent.specs.Holds.{IsLed}
use Rattle.dali_concurrent.proofs.Told.{told_push}
use Rattle.dali_concurrent.proofs.Kept.{system_meets}
use Rattle.dali_locked.specs.Begun.{Begun, outset, may_add, Of, LedFrom}
use Rattle.dali_locked.specs.Sights.{ClientSight, SystemSight, RegionSight, HasLogged, Knows, client_sight, system_sight, region_sight}
use Rattle.dali_locked.specs.Regions.{RegionKept, op_region}
use Rattle.dali_locked.specs.Undoing.{StandsFree, StandsLatched}
use Rattle.dali_locked.proofs.RegionSigns.{signs_three}
use Rattle.dali_locked.proofs.RegionOps.{counted, operation_next}
use Rattle.dali_locked.proofs.RegionAdding.{led_on, front_may, told_on, passes_meet, passes_stay, kept_behind}
use Rattle.dali_locked.proofs.RegionCommit.{by_three}
use Rattle.dali_locked.proofs.Standing.{latched_stays}

-- what is logged, wherever the history has come to
abbrev pub told_item : ℕ → ℕ → Record → RegionState → SystemState → List StoreStep → Item
told_item c r R g z xs = (Did (Logs R) c, OnBoth r (touched g) z, xs)

pub record IsLoggedThere (bases : Bases) (p : Point) (o : Outset) (c r t n : ℕ) (W : Option State → Option TxnState → Type 0) (R : Record) (item : Item) (now : History) : Type 0 where
  pub follows : Follows bases p o now (by_three (count_of o) c r, item)
  pub behind : IsLed bases p o (now ++ (by_three (count_of o) c r, item) ∷ []) → StandsFree c t W o (now ++ (by_three (count_of o) c r, item) ∷ [])
  pub logged : HasLogged n R o (now ++ (by_three (count_of o) c r, item) ∷ [])

module _ (b : Begun) (client : ClientSight) (t : TableId) (k : ℕ) (x : RegionSight) (kept : RegionKept b t k x) (w : SystemSight) (system : Of b (λ o T. SystemTold o w.served.state T) w.seen)
    (u r : ℕ) (here : r ≡ x.number) (Q W : Option State → Option TxnState → Type 0) (R : Record) (z : SystemState) (xs : List StoreStep) (item : Item) (item_is : item ≡ told_item client.id r R x.region z xs)
    (knows : Knows b (StandsLatched client.id x.number u Q) client)
    (there : (s : Start) (p : Point) → b.each s p → (now : History) → IsLed (bases_of s) p (outset b s p) now → RegionTold (outset b s p) r x.region now → w.served.state ≡ (core_told (outset b s p) now).system
    → StandsLatched client.id r u Q (outset b s p) now → IsLoggedThere (bases_of s) p (outset b s p) client.id r u w.served.state.records W R (told_item client.id r R x.region z xs) now) where
  module _ (s : Start) (p : Point) (each : b.each s p) (now : History) (all : AllMay (may_add b) now) (mine : IsSeen now (client_note b.count client.id) client.seen)
      (theirs : IsSeen now system_note w.seen) (its : IsSeen now (region_note x.number) x.seen) where
    abbrev o : Outset
    o = outset b s p

    from : LedFrom b s p now
    from = led_on b x.seen now kept.led all s p each

    is_now : IsLoggedThere (bases_of s) p o client.id r u w.served.state.records W R (told_item client.id r R x.region z xs) now
    is_now = there s p each now from.led
        (subst (λ n. RegionTold o n x.region now) (sym here) (told_on b t k x now kept its all s p each))
        (system_meets (bases_of s) p o w.seen now w.served.state theirs from.led.all (system s p each))
        (subst (λ n. StandsLatched client.id n u Q o now) (sym here)
        (latched_stays (bases_of s) p o client.id u Q client.seen now from.led (subst (λ n. IsSeen now (client_note n client.id) client.seen) (sym from.count) mine) x.number (knows s p each)))

    moved : (P : ℕ → ℕ → Item → Type 0) → P (count_of o) r (told_item client.id r R x.region z xs) → P b.count x.number item
    moved P q = subst (λ n. P n x.number item) from.count (subst (λ n. P (count_of o) n item) here (subst (λ i. P (count_of o) r i) (sym item_is) q))

    follows_now : Follows (bases_of s) p o now (by_three b.count client.id x.number, item)
    follows_now = moved (λ n m i. Follows (bases_of s) p o now (by_three n client.id m, i)) is_now.follows

    behind_now : IsLed (bases_of s) p o (now ++ (by_three b.count client.id x.number, item) ∷ []) → StandsFree client.id u W o (now ++ (by_three b.count client.id x.number, item) ∷ [])
    behind_now led =
        moved (λ n m i. IsLed (bases_of s) p o (now ++ (by_three n client.id m, i) ∷ []) → StandsFree client.id u W o (now ++ (by_three n client.id m, i) ∷ [])) is_now.behind led

    logged_now : HasLogged w.served.state.records R o (now ++ (by_three b.count client.id x.number, item) ∷ [])
    logged_now = moved (λ n m i. HasLogged w.served.state.records R o (now ++ (by_three n client.id m, i) ∷ [])) is_now.logged

    system_now : SystemTold o z (now ++ (by_three b.count client.id x.number, item) ∷ [])
    system_now = sym (ap (λ (c : CoreState). c.system) (told_push o now (by_three b.count client.id x.number, item)) ∙ ap (λ (i : Item). (effect_on (core_told o now) i.1).system) item_is)

  pub logged_may : MayAdd (may_add b) (client_sight b client ∷ system_sight b w ∷ region_sight b x ∷ []) item
  logged_may now saw all s p each = follows_now s p each now all saw.0 saw.1.0 saw.1.1.0

  module _ (new : History) (added : Added (client_sight b client ∷ system_sight b w ∷ region_sight b x ∷ []) item new) (behind : AllMay (may_add b) new) where
    whole : AllMay (may_add b) (added.0 ++ (by_three b.count client.id x.number, item) ∷ [])
    whole = subst (AllMay (may_add b)) added.2 behind

    before : AllMay (may_add b) added.0
    before = front_may b added.0 ((by_three b.count client.id x.number, item) ∷ []) whole

    pub logged_stands_known : Of b (StandsFree client.id u W) new
    logged_stands_known s p each = subst (StandsFree client.id u W (outset b s p)) (sym added.2)
        (behind_now s p each added.0 before added.1.0 added.1.1.0 added.1.1.1.0 (led_on b x.seen (added.0 ++ (by_three b.count client.id x.number, item) ∷ []) kept.led whole s p each).led)

    pub logged_known : Of b (HasLogged w.served.state.records R) new
    logged_known s p each = subst (HasLogged w.served.state.records R (outset b s p)) (sym added.2) (logged_now s p each added.0 before added.1.0 added.1.1.0 added.1.1.1.0)

    pub logged_system : Of b (λ o T. SystemTold o z T) new
    logged_system s p each = subst (SystemTold (outset b s p) z) (sym added.2) (system_now s p each added.0 before added.1.0 added.1.1.0 added.1.1.1.0)

    leaves : (c : CoreState) → slice_get c.regions x.number ≡ Some x.region → slice_get (effect_on c item.1).regions x.number ≡ Some (touched x.region)
    leaves c at = ap (λ (i : Item). slice_get (effect_on c i.1).regions x.number) item_is
        ∙ subst (λ n. slice_get (slice_set c.regions r (touched x.region)) n ≡ Some (touched x.region)) here (get_set c.regions r x.region (touched x.region) (ap (slice_get c.regions) here ∙ at))

    pub logged_kept : RegionKept b t k (record { number = x.number; steps = x.steps + 1; audits = x.audits; region = touched x.region; seen = new })
    logged_kept =
        subst (λ T. RegionKept b t k (record { number = x.number; steps = x.steps + 1; audits = x.audits; region = touched x.region; seen = T })) (sym added.2)
        (kept_behind b t k (x.steps + 1) x.audits x (touched x.region) added.0 (by_three b.count client.id x.number, item) kept added.1.1.1.0 whole
        (signs_three (client_note b.count client.id) x.number) leaves
        (operation_next x.number x.steps x.region (touched x.region) x.seen added.0 (by_three b.count client.id x.number, item) kept.operation added.1.1.1.0
        (subst (λ i. op_region x.number (by_three b.count client.id x.number, i) ≡ Some (touched x.region)) (sym item_is)
        (counted x.number (by_three b.count client.id x.number) (told_item client.id r R x.region z xs) (touched x.region) (signs_three (client_note b.count client.id) x.number) refl refl)))
        (passes_stay x.number x.audits added.0 (by_three b.count client.id x.number, item) other (passes_meet x.number x.audits x.seen added.0 added.1.1.1.0 kept.passed)))
      where
        other : (n : ℕ) (right : Bool) → item.0 ≡ Passed x.number n right → ⊥
        other n right e = let f : Did (Logs R) client.id ≡ Passed x.number n right = sym (ap (λ (i : Item). i.0) item_is) ∙ e in absurd (cc)
