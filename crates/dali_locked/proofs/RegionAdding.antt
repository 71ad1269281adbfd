-- What who adds an entry on a region may rely on, and what is kept of the region behind it.
use Rattle.std.proofs.Common.{◌≡◌, ℕ, zero, suc, ◌+◌, ◌<◌, ◌≤◌, Bool, true, false, List, [], ◌∷◌, ◌++◌, length, Option, Some, None, ap, sym, subst, ◌∙◌, ⊎_elim, arith}
use Rattle.std.specs.Prelude.{slice_get, take}
use Rattle.atomic_table.specs.Seated.{TableId}
use Rattle.dali_lists.proofs.Lists.{get_push}
use Rattle.dali_lists.proofs.Tests.{not_both_ways}
use Rattle.dali_runs.proofs.CountsLemmas.Lists.{some_same}
use Rattle.dali_region.specs.State.{RegionState}
use Rattle.dali_runs.specs.State.{CoreState}
use Rattle.dali_system.specs.Served.{Served}
use Rattle.dali_system.specs.declared.operation.Operation.{Operation}
use Rattle.dali_system.specs.UnderWay.{OneIsUnderWay}
use Rattle.std.proofs.lemmas.List.{append_assoc}
use Rattle.dali_notes.specs.History.{In, IsSeen, Sight, signs, AllMay, MayAdd, Added, signed_by}
use Rattle.dali_crash.specs.Traces.{Start, bases_of}
use Rattle.dali_crash.specs.Checkpoints.{Point}
use Rattle.dali_concurrent.specs.Entries.{Entry, Passed, Entries, At, system_note, region_note, client_note}
use Rattle.dali_concurrent.specs.Rules.{count_of}
use Rattle.dali_concurrent.specs.Told.{Item, Line, Effect, effect_on, History, plain, plain_one, core_told}
use Rattle.dali_concurrent.specs.Kept.{RegionTold, Follows}
use Rattle.dali_concurrent.specs.Holds.{IsLed}
use Rattle.dali_concurrent.proofs.Lists.{get_sides, get_of_front, take_length, each_front}
use Rattle.dali_concurrent.proofs.Told.{plain-append, plain_seen, told_push}
use Rattle.dali_concurrent.proofs.Kept.{region_meets}
use Rattle.dali_concurrent.proofs.Holds.{holds_are_told}
use Rattle.dali_locked.specs.Begun.{Begun, outset, may_add, Of, LedFrom, Led}
use Rattle.dali_locked.specs.Sights.{ClientSight, RegionSight, client_sight, system_sight, region_sight}
use Rattle.dali_locked.specs.Regions.{op_region, IsAt, OperationStands, PassesBelow, RegionKept}
use Rattle.dali_locked.proofs.RegionSigns.{signs_pair}
use Rattle.dali_locked.proofs.RegionOps.{operation_meets, operation_next, operation_stays, at_next}

pub led_on : (b : Begun) (seen now : History) → Led b seen → AllMay (may_add b) now → Led b now
led_on b seen now led all s p is = record {
  led = record { begins = (led s p is).led.begins; all = λ i e at. all i e at s p is };
  count = (led s p is).count;
}

-- what others add, one after another
pub seen_further : (k : ℕ) (seen mid now : History) → IsSeen mid k seen → IsSeen now k mid → IsSeen now k seen
seen_further k seen mid now a b = record {
  rest = a.rest ++ b.rest;
  all = b.all ∙ (ap (λ l. l ++ b.rest) a.all ∙ append_assoc seen a.rest b.rest);
  none = λ x there. ⊎_elim (λ w. a.none x (there.0, w)) (λ w. b.none x (w.0, w.1)) (get_sides a.rest b.rest there.0 x there.1);
}

-- ---- notes in words of what contracts see
pub client_is : (b : Begun) (n : Sight Item) (id : ℕ) → n.table ≡ b.table → n.number ≡ client_note b.count id → n ≡ client_sight b (record { id = id; seen = n.seen })
client_is b n id t k = λ i. record { table = t i; number = k i; seen = n.seen }

pub system_is : (b : Begun) (n : Sight Item) (served : Served) → n.table ≡ b.table → n.number ≡ system_note → n ≡ system_sight b (record { served = served; seen = n.seen })
system_is b n served t k = λ i. record { table = t i; number = k i; seen = n.seen }

pub region_is : (b : Begun) (n : Sight Item) (x : RegionSight) → RegionKept b n.table n.number x → n.seen ≡ x.seen → n ≡ region_sight b x
region_is b n x kept seen = λ i. record { table = kept.home i; number = kept.numbered i; seen = seen i }

pub may_of : (b : Begun) (m n m' n' : Sight Item) (item item' : Item) → m ≡ m' → n ≡ n' → item ≡ item' → MayAdd (may_add b) (m' ∷ n' ∷ []) item' → MayAdd (may_add b) (m ∷ n ∷ []) item
may_of b m n m' n' item item' e f g may =
    subst (λ z. MayAdd (may_add b) (z ∷ n ∷ []) item) (sym e) (subst (λ z. MayAdd (may_add b) (m' ∷ z ∷ []) item) (sym f) (subst (λ z. MayAdd (may_add b) (m' ∷ n' ∷ []) z) (sym g) may))

pub added_of : (m n m' n' : Sight Item) (item item' : Item) (new : History) → m ≡ m' → n ≡ n' → item ≡ item' → Added (m ∷ n ∷ []) item new → Added (m' ∷ n' ∷ []) item' new
added_of m n m' n' item item' new e f g added =
    subst (λ z. Added (z ∷ n' ∷ []) item' new) e (subst (λ z. Added (m ∷ z ∷ []) item' new) f (subst (λ z. Added (m ∷ n ∷ []) z new) g added))

-- the region's note had met others before
pub added_before : (b : Begun) (client : ClientSight) (x : RegionSight) (mid : History) (item : Item) (new : History) → IsSeen mid (region_note x.number) x.seen
    → Added (client_sight b client ∷ region_sight b (record x { seen = mid }) ∷ []) item new → Added (client_sight b client ∷ region_sight b x ∷ []) item new
added_before b client x mid item new is added = (added.0, (added.1.0, (seen_further (region_note x.number) x.seen mid added.0 is added.1.1.0, tt)), added.2)

pub met_seen : (b : Begun) (n m : Sight Item) (x : RegionSight) → RegionKept b n.table n.number x → IsSeen m.seen n.number x.seen → IsSeen m.seen (region_note x.number) x.seen
met_seen b n m x kept is = subst (λ k. IsSeen m.seen k x.seen) kept.numbered is

pub still_noted : (n m l : Sight Item) (new : History) → m.table ≡ n.table → m.number ≡ n.number → l ≡ record m { seen = new } → l ≡ record n { seen = new }
still_noted n m l new t k e = e ∙ (λ i. record { table = t i; number = k i; seen = new })

pub met_is : (b : Begun) (n m : Sight Item) (x : RegionSight) → RegionKept b n.table n.number x → m.table ≡ n.table → m.number ≡ n.number → m ≡ region_sight b (record x { seen = m.seen })
met_is b n m x kept t k = λ i. record { table = (t ∙ kept.home) i; number = (k ∙ kept.numbered) i; seen = m.seen }

-- what is kept, in words of the note behind the step
pub kept_of : (b : Begun) (n m : Sight Item) (x : RegionSight) → m ≡ record n { seen = x.seen } → RegionKept b n.table n.number x
    → RegionKept b m.table m.number (record { number = x.number; steps = x.steps; audits = x.audits; region = x.region; seen = m.seen })
kept_of b n m x is kept = subst (λ (z : Sight Item). RegionKept b z.table z.number (record { number = x.number; steps = x.steps; audits = x.audits; region = x.region; seen = z.seen })) (sym is) kept

-- ---- audits
pub own_pass : (r : ℕ) (seen now : Entries) (i b : ℕ) (k : List ℕ) (right : Bool) → IsSeen now (region_note r) seen → At now i (k, Passed r b right) → signs (region_note r) k ≡ true
    → (j : ℕ) × At seen j (k, Passed r b right)
own_pass r seen now i b k right is at signed =
    ⊎_elim (λ here. (i, here)) (λ w. absurd (not_both_ways signed (is.none (k, Passed r b right) (w.0, w.1)))) (get_sides seen is.rest i (k, Passed r b right) (ap (λ l. slice_get l i) (sym is.all) ∙ at))

pub passes_meet : (r n : ℕ) (seen now : History) → IsSeen now (region_note r) seen → PassesBelow r n seen → PassesBelow r n now
passes_meet r n seen now is kept = record {
  below = λ i b k right at signed. let w = own_pass r (plain seen) (plain now) i b k right (plain_seen now (region_note r) seen is) at signed in kept.below w.0 b k right w.1 signed;
  last = λ b e.
      let w = kept.last b e in
      (w.0, w.1, w.2, ap (λ P. slice_get P w.0) (plain_seen now (region_note r) seen is).all ∙ (get_of_front (plain seen) (plain_seen now (region_note r) seen is).rest w.0 (w.1, Passed r b w.2) w.3).0);
}

pub passes_stay : (r n : ℕ) (now : History) (e : Line) → ((b : ℕ) (right : Bool) → e.1.0 ≡ Passed r b right → ⊥) → PassesBelow r n now → PassesBelow r n (now ++ e ∷ [])
passes_stay r n now e other kept = record {
  below = λ i b k right at signed. ⊎_elim (λ here. kept.below i b k right here signed) (λ w. absurd (last w.0 b k right w.1)) (get_sides (plain now) (plain_one e ∷ []) i (k, Passed r b right) (ap (λ P. slice_get P i) (sym (plain-append now (e ∷ []))) ∙ at));
  last = λ b q.
      let w = kept.last b q in
      (w.0, w.1, w.2, ap (λ P. slice_get P w.0) (plain-append now (e ∷ [])) ∙ (get_of_front (plain now) (plain_one e ∷ []) w.0 (w.1, Passed r b w.2) w.3).0);
}
  where
    last : (j b : ℕ) (k : List ℕ) (right : Bool) → At (plain_one e ∷ []) j (k, Passed r b right) → ⊥
    last zero b k right at = let same : plain_one e ≡ (k, Passed r b right) = some_same at in other b right (ap (λ (z : List ℕ × Entry). z.1) same)
    last (suc j) b k right at = absurd (cc)

pub passes_next : (r n b : ℕ) (k : List ℕ) (right : Bool) (now : History) (e : Line) → n ≤ b → plain_one e ≡ (k, Passed r b right) → PassesBelow r n now → PassesBelow r (b + 1) (now ++ e ∷ [])
passes_next r n b k right now e low is kept = record {
  below = λ i d j found at signed. ⊎_elim (λ here. let less = kept.below i d j found here signed in omega (arith, less, low)) (λ w. last w.0 d j found w.1) (get_sides (plain now) (plain_one e ∷ []) i (j, Passed r d found) (ap (λ P. slice_get P i) (sym (plain-append now (e ∷ []))) ∙ at));
  last = λ d q.
      let same : b ≡ d = omega (arith, q) in (
        length (plain now),
        k,
        right,
        ap (λ P. slice_get P (length (plain now))) (plain-append now (e ∷ [])) ∙ (get_push (plain now) (plain_one e) ∙ (ap Some is ∙ ap (λ z. Some (k, Passed r z right)) same)),
      );
}
  where
    last : (j d : ℕ) (l : List ℕ) (found : Bool) → At (plain_one e ∷ []) j (l, Passed r d found) → d < b + 1
    last zero d l found at =
        let same : (k, Passed r b right) ≡ (l, Passed r d found) = sym is ∙ some_same at in
        let number : b ≡ d = ap begin_of same in
        omega (arith, number)
      where
        begin_of : List ℕ × Entry → ℕ
        begin_of (k, Passed r b right) = b
        begin_of p = 0
    last (suc j) d l found at = absurd (cc)

module _ (b : Begun) where
  pub front_may : (A B : History) → AllMay (may_add b) (A ++ B) → AllMay (may_add b) A
  front_may A B all = each_front (may_add b) A B all

  -- the last line follows those before it
  pub last_follows : (A : History) (e : Line) → AllMay (may_add b) (A ++ e ∷ []) → may_add b A e
  last_follows A e all = subst (λ T. may_add b T e) (take_length A (e ∷ [])) (all (length A) e (get_push A e))

  -- the region in hand is as told wherever others have led the history
  pub told_on : (t : TableId) (k : ℕ) (x : RegionSight) (now : History) → RegionKept b t k x → IsSeen now (region_note x.number) x.seen → AllMay (may_add b) now
      → Of b (λ o T. RegionTold o x.number x.region T) now
  told_on t k x now kept is all s p each =
      region_meets (bases_of s) p (outset b s p) x.number x.seen now x.region is (λ i e at. all i e at s p each) (kept.told s p each)

  -- its note has met another one
  pub kept_meets : (t : TableId) (k : ℕ) (x : RegionSight) (now : History) → RegionKept b t k x → IsSeen now (region_note x.number) x.seen → AllMay (may_add b) now
      → RegionKept b t k (record x { seen = now })
  kept_meets t k x now kept is all = record {
    home = kept.home;
    numbered = kept.numbered;
    led = led_on b x.seen now kept.led all;
    told = told_on t k x now kept is all;
    operation = operation_meets x.number x.steps x.region x.seen now is kept.operation;
    passed = passes_meet x.number x.audits x.seen now is kept.passed;
  }

  -- behind a line that its note has signed
  pub kept_behind : (t : TableId) (k n a : ℕ) (x : RegionSight) (h : RegionState) (now : History) (e : Line) → RegionKept b t k x → IsSeen now (region_note x.number) x.seen
      → AllMay (may_add b) (now ++ e ∷ []) → signs (region_note x.number) e.0 ≡ true
      → ((c : CoreState) → slice_get c.regions x.number ≡ Some x.region → slice_get (effect_on c e.1.1).regions x.number ≡ Some h)
      → OperationStands x.number n h (now ++ e ∷ []) → PassesBelow x.number a (now ++ e ∷ [])
      → RegionKept b t k (record { number = x.number; steps = n; audits = a; region = h; seen = now ++ e ∷ [] })
  kept_behind t k n a x h now e kept is all signed leaves stands passed = record {
    home = kept.home;
    numbered = kept.numbered;
    led = led_on b x.seen (now ++ e ∷ []) kept.led all;
    told = λ s p each.
        let before = front_may now (e ∷ []) all in
        let there = (told_on t k x now kept is before s p each).is in
        let low : x.number < count_of (outset b s p) = (holds_are_told (bases_of s) p (outset b s p) now (led_on b x.seen now kept.led before s p each).led x.number x.region there).0 in
        let at : slice_get (core_told (outset b s p) (now ++ e ∷ [])).regions x.number ≡ Some h =
        ap (λ (c : CoreState). slice_get c.regions x.number) (told_push (outset b s p) now e) ∙ leaves (core_told (outset b s p) now) there in
        record { is = at; hold = (last_follows now e all s p each).holds x.number h low signed at };
    operation = stands;
    passed = passed;
  }

  -- behind a line of a client and the region, which are in hand
  module _ (client : ClientSight) (t : TableId) (k : ℕ) (x : RegionSight) (kept : RegionKept b t k x) (h : RegionState) (item : Item) (new : History)
      (added : Added (client_sight b client ∷ region_sight b x ∷ []) item new) (all : AllMay (may_add b) new)
      (leaves : (c : CoreState) → slice_get c.regions x.number ≡ Some x.region → slice_get (effect_on c item.1).regions x.number ≡ Some h)
      (other : (a : ℕ) (right : Bool) → item.0 ≡ Passed x.number a right → ⊥) where
    abbrev line : Line
    line = (client_note b.count client.id ∷ region_note x.number ∷ [], item)

    kept_now : (n : ℕ) → OperationStands x.number n h (added.0 ++ line ∷ []) → RegionKept b t k (record { number = x.number; steps = n; audits = x.audits; region = h; seen = new })
    kept_now n stands =
        subst (λ T. RegionKept b t k (record { number = x.number; steps = n; audits = x.audits; region = h; seen = T })) (sym added.2)
        (kept_behind t k n x.audits x h added.0 line kept added.1.1.0 (subst (AllMay (may_add b)) added.2 all) (signs_pair (client_note b.count client.id) x.number) leaves stands
        (passes_stay x.number x.audits added.0 line other (passes_meet x.number x.audits x.seen added.0 added.1.1.0 kept.passed)))

    -- of an operation
    pub kept_next : op_region x.number line ≡ Some h → RegionKept b t k (record { number = x.number; steps = x.steps + 1; audits = x.audits; region = h; seen = new })
    kept_next told = kept_now (x.steps + 1) (operation_next x.number x.steps x.region h x.seen added.0 line kept.operation added.1.1.0 told)

    pub next_at : (o : Option Operation) → op_region x.number line ≡ Some h → OneIsUnderWay o h → IsAt x.number (x.steps + 1) o new
    next_at o told under = subst (IsAt x.number (x.steps + 1) o) (sym added.2) (at_next x.number x.steps x.region h o x.seen added.0 line kept.operation added.1.1.0 told under)

    -- of another step
    pub kept_stays : op_region x.number line ≡ None → ((o : Option Operation) → OneIsUnderWay o x.region → OneIsUnderWay o h)
        → RegionKept b t k (record { number = x.number; steps = x.steps; audits = x.audits; region = h; seen = new })
    kept_stays told under = kept_now x.steps (operation_stays x.number x.steps x.region h x.seen added.0 line kept.operation added.1.1.0 told under)
