-- What who adds an entry of a client and a region, or of these and the system, may rely on, and what is kept behind it.
use Rattle.std.proofs.Common.{◌≡◌, ℕ, ◌+◌, Bool, true, List, [], ◌∷◌, ◌++◌, Option, Some, ap, sym, subst, ◌∙◌}
use Rattle.std.specs.Prelude.{slice_get}
use Rattle.atomic_table.specs.Seated.{TableId}
use Rattle.dali_region.specs.State.{RegionState}
use Rattle.dali_runs.specs.State.{SystemState, CoreState}
use Rattle.dali_runs.specs.Run.{Bases}
use Rattle.dali_crash.specs.Checkpoints.{Point}
use Rattle.dali_crash.specs.Traces.{Start, bases_of}
use Rattle.dali_notes.specs.History.{IsSeen, Sight, AllMay, MayAdd, Added}
use Rattle.dali_concurrent.specs.Entries.{Passed, client_note, system_note, region_note}
use Rattle.dali_concurrent.specs.Rules.{Outset, count_of}
use Rattle.dali_concurrent.specs.Told.{Item, Line, effect_on, History, core_told}
use Rattle.dali_concurrent.specs.Kept.{SystemTold, RegionTold, Follows}
use Rattle.dali_concurrent.specs.Holds.{IsLed}
use Rattle.dali_concurrent.proofs.Told.{told_push}
use Rattle.dali_concurrent.proofs.Kept.{system_meets}
use Rattle.dali_locked.specs.Begun.{Begun, outset, may_add, Of, LedFrom}
use Rattle.dali_locked.specs.Sights.{ClientSight, SystemSight, RegionSight, client_sight, system_sight, region_sight}
use Rattle.dali_locked.specs.Regions.{op_region, RegionKept}
use Rattle.dali_locked.proofs.RegionSigns.{signs_three}
use Rattle.dali_locked.proofs.RegionOps.{operation_next}
use Rattle.dali_locked.proofs.RegionAdding.{led_on, seen_further, front_may, told_on, passes_meet, passes_stay, kept_behind}
use Rattle.dali_locked.proofs.RegionCommit.{by_three}

abbrev pub by_pair : ℕ → ℕ → ℕ → List ℕ
by_pair n c r = client_note n c ∷ region_note r ∷ []

-- ---- in hand, where the history has come to now
pub record InTwo (bases : Bases) (p : Point) (o : Outset) (c : ℕ) (seen : History) (r : ℕ) (g : RegionState) (now : History) : Type 0 where
  pub led : IsLed bases p o now
  pub mine : IsSeen now (client_note (count_of o) c) seen
  pub told : RegionTold o r g now

pub record InThree (bases : Bases) (p : Point) (o : Outset) (c : ℕ) (seen : History) (r : ℕ) (g : RegionState) (y : SystemState) (now : History) : Type 0 where
  pub two : InTwo bases p o c seen r g now
  pub is : y ≡ (core_told o now).system

-- ---- notes that had met others before
pub client_added_before : (b : Begun) (client : ClientSight) (x : RegionSight) (mid : History) (item : Item) (new : History) → IsSeen mid (client_note b.count client.id) client.seen
    → Added (client_sight b (record client { seen = mid }) ∷ region_sight b x ∷ []) item new → Added (client_sight b client ∷ region_sight b x ∷ []) item new
client_added_before b client x mid item new is added = (added.0, (seen_further (client_note b.count client.id) client.seen mid added.0 is added.1.0, added.1.1), added.2)

pub three_added_before : (b : Begun) (client : ClientSight) (w : SystemSight) (x : RegionSight) (theirs its : History) (item : Item) (new : History) → IsSeen theirs system_note w.seen → IsSeen its (region_note x.number) x.seen
    → Added (client_sight b client ∷ system_sight b (record w { seen = theirs }) ∷ region_sight b (record x { seen = its }) ∷ []) item new
    → Added (client_sight b client ∷ system_sight b w ∷ region_sight b x ∷ []) item new
three_added_before b client w x theirs its item new is at added =
    (added.0, (added.1.0, (seen_further system_note w.seen theirs added.0 is added.1.1.0, (seen_further (region_note x.number) x.seen its added.0 at added.1.1.1.0, tt))), added.2)

pub system_three_before : (b : Begun) (client : ClientSight) (w : SystemSight) (x : RegionSight) (mid : History) (item : Item) (new : History) → IsSeen mid system_note w.seen
    → Added (client_sight b client ∷ system_sight b (record w { seen = mid }) ∷ region_sight b x ∷ []) item new → Added (client_sight b client ∷ system_sight b w ∷ region_sight b x ∷ []) item new
system_three_before b client w x mid item new at added = (added.0, (added.1.0, (seen_further system_note w.seen mid added.0 at added.1.1.0, added.1.1.1)), added.2)

module _ (b : Begun) (client : ClientSight) (x : RegionSight) (t : TableId) (k : ℕ) (kept : RegionKept b t k x) where
  abbrev pub two : List (Sight Item)
  two = client_sight b client ∷ region_sight b x ∷ []

  in_two : (s : Start) (p : Point) → b.each s p → (now : History) → AllMay (may_add b) now → IsSeen now (client_note b.count client.id) client.seen → IsSeen now (region_note x.number) x.seen
      → InTwo (bases_of s) p (outset b s p) client.id client.seen x.number x.region now
  in_two s p each now all mine its =
      let from : LedFrom b s p now = led_on b x.seen now kept.led all s p each in
      record {
        led = from.led;
        mine = subst (λ n. IsSeen now (client_note n client.id) client.seen) (sym from.count) mine;
        told = told_on b t k x now kept its all s p each;
      }

  pub two_may : (item : Item)
      → ((s : Start) (p : Point) → b.each s p → (now : History) → InTwo (bases_of s) p (outset b s p) client.id client.seen x.number x.region now
      → Follows (bases_of s) p (outset b s p) now (by_pair (count_of (outset b s p)) client.id x.number, item))
      → MayAdd (may_add b) two item
  two_may item follows now saw all s p each =
      let from : LedFrom b s p now = led_on b x.seen now kept.led all s p each in
      subst (λ n. Follows (bases_of s) p (outset b s p) now (by_pair n client.id x.number, item)) from.count (follows s p each now (in_two s p each now all saw.0 saw.1.0))

  pub two_behind : (item : Item) (new : History) → Added two item new → AllMay (may_add b) new → (P : Outset → History → Type 0)
      → ((s : Start) (p : Point) → b.each s p → (now : History) → InTwo (bases_of s) p (outset b s p) client.id client.seen x.number x.region now
      → IsLed (bases_of s) p (outset b s p) (now ++ (by_pair (count_of (outset b s p)) client.id x.number, item) ∷ []) → P (outset b s p) (now ++ (by_pair (count_of (outset b s p)) client.id x.number, item) ∷ []))
      → Of b P new
  two_behind item new added all P holds s p each =
      let now = added.0 in
      let line : Line = (by_pair b.count client.id x.number, item) in
      let whole : AllMay (may_add b) (now ++ line ∷ []) = subst (AllMay (may_add b)) added.2 all in
      let before : AllMay (may_add b) now = front_may b now (line ∷ []) whole in
      let from : LedFrom b s p now = led_on b x.seen now kept.led before s p each in
      let behind : LedFrom b s p (now ++ line ∷ []) = led_on b x.seen (now ++ line ∷ []) kept.led whole s p each in
      subst (P (outset b s p)) (sym added.2)
      (subst (λ n. P (outset b s p) (now ++ (by_pair n client.id x.number, item) ∷ [])) from.count
      (holds s p each now (in_two s p each now before added.1.0 added.1.1.0)
      (subst (λ n. IsLed (bases_of s) p (outset b s p) (now ++ (by_pair n client.id x.number, item) ∷ [])) (sym from.count) behind.led)))

  module _ (w : SystemSight) (system : Of b (λ o T. SystemTold o w.served.state T) w.seen) where
    abbrev pub three : List (Sight Item)
    three = client_sight b client ∷ system_sight b w ∷ region_sight b x ∷ []

    in_three : (s : Start) (p : Point) → b.each s p → (now : History) → AllMay (may_add b) now → IsSeen now (client_note b.count client.id) client.seen → IsSeen now system_note w.seen
        → IsSeen now (region_note x.number) x.seen
        → InThree (bases_of s) p (outset b s p) client.id client.seen x.number x.region w.served.state now
    in_three s p each now all mine theirs its = record {
      two = in_two s p each now all mine its;
      is = system_meets (bases_of s) p (outset b s p) w.seen now w.served.state theirs (λ i e at. all i e at s p each) (system s p each);
    }

    pub three_may : (item : Item)
        → ((s : Start) (p : Point) → b.each s p → (now : History) → InThree (bases_of s) p (outset b s p) client.id client.seen x.number x.region w.served.state now
        → Follows (bases_of s) p (outset b s p) now (by_three (count_of (outset b s p)) client.id x.number, item))
        → MayAdd (may_add b) three item
    three_may item follows now saw all s p each =
        let from : LedFrom b s p now = led_on b x.seen now kept.led all s p each in
        subst (λ n. Follows (bases_of s) p (outset b s p) now (by_three n client.id x.number, item)) from.count (follows s p each now (in_three s p each now all saw.0 saw.1.0 saw.1.1.0))

    pub three_behind : (item : Item) (new : History) → Added three item new → AllMay (may_add b) new → (P : Outset → History → Type 0)
        → ((s : Start) (p : Point) → b.each s p → (now : History) → InThree (bases_of s) p (outset b s p) client.id client.seen x.number x.region w.served.state now
        → IsLed (bases_of s) p (outset b s p) (now ++ (by_three (count_of (outset b s p)) client.id x.number, item) ∷ []) → P (outset b s p) (now ++ (by_three (count_of (outset b s p)) client.id x.number, item) ∷ []))
        → Of b P new
    three_behind item new added all P holds s p each =
        let now = added.0 in
        let line : Line = (by_three b.count client.id x.number, item) in
        let whole : AllMay (may_add b) (now ++ line ∷ []) = subst (AllMay (may_add b)) added.2 all in
        let before : AllMay (may_add b) now = front_may b now (line ∷ []) whole in
        let from : LedFrom b s p now = led_on b x.seen now kept.led before s p each in
        let behind : LedFrom b s p (now ++ line ∷ []) = led_on b x.seen (now ++ line ∷ []) kept.led whole s p each in
        subst (P (outset b s p)) (sym added.2)
        (subst (λ n. P (outset b s p) (now ++ (by_three n client.id x.number, item) ∷ [])) from.count
        (holds s p each now (in_three s p each now before added.1.0 added.1.1.0 added.1.1.1.0)
        (subst (λ n. IsLed (bases_of s) p (outset b s p) (now ++ (by_three n client.id x.number, item) ∷ [])) (sym from.count) behind.led)))

    -- the region behind a line of an operation
    pub three_kept : (h : RegionState) (item : Item) (new : History) → Added three item new → AllMay (may_add b) new
        → ((c : CoreState) → slice_get c.regions x.number ≡ Some x.region → slice_get (effect_on c item.1).regions x.number ≡ Some h)
        → ((a : ℕ) (right : Bool) → item.0 ≡ Passed x.number a right → ⊥)
        → op_region x.number (by_three b.count client.id x.number, item) ≡ Some h
        → RegionKept b t k (record { number = x.number; steps = x.steps + 1; audits = x.audits; region = h; seen = new })
    three_kept h item new added all leaves other counts =
        let now = added.0 in
        let line : Line = (by_three b.count client.id x.number, item) in
        subst (λ T. RegionKept b t k (record { number = x.number; steps = x.steps + 1; audits = x.audits; region = h; seen = T })) (sym added.2)
        (kept_behind b t k (x.steps + 1) x.audits x h now line kept added.1.1.1.0 (subst (AllMay (may_add b)) added.2 all) (signs_three (client_note b.count client.id) x.number) leaves
        (operation_next x.number x.steps x.region h x.seen now line kept.operation added.1.1.1.0 counts)
        (passes_stay x.number x.audits now line other (passes_meet x.number x.audits x.seen now added.1.1.1.0 kept.passed)))

    -- and the system
    pub three_system : (z : SystemState) (item : Item) (new : History) → Added three item new → AllMay (may_add b) new → ((d : CoreState) → (effect_on d item.1).system ≡ z) → Of b (λ o T. SystemTold o z T) new
    three_system z item new added all leaves = three_behind item new added all (λ o T. SystemTold o z T) (λ s p each now hand led.
        let o = outset b s p in
        let line : Line = (by_three (count_of o) client.id x.number, item) in
        sym (ap (λ (d : CoreState). d.system) (told_push o now line) ∙ leaves (core_told o now)))
