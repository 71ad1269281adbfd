-- What notes know of a history whose rule they keep, before and behind an entry that they add.
use Rattle.std.proofs.Common.{◌≡◌, ℕ, zero, suc, ◌<◌, Bool, true, false, List, [], ◌∷◌, ◌++◌, Some, refl, ap, sym, subst, ◌∙◌}
use Rattle.std.specs.Prelude.{slice_get, take}
use Rattle.atomic_table.specs.Seated.{TableId}
use Rattle.dali_runs.proofs.CountsLemmas.Lists.{some_same}
use Rattle.dali_crash.specs.Checkpoints.{StoreStep, Point}
use Rattle.dali_crash.specs.Traces.{Start, bases_of}
use Rattle.dali_notes.specs.History.{IsSeen, Sight, AllSaw, AllMay, MayAdd, Added, signed_by}
use Rattle.dali_concurrent.specs.Rules.{Outset, count_of}
use Rattle.dali_concurrent.specs.Told.{Item, Line, History}
use Rattle.dali_concurrent.specs.Kept.{Follows, is_silent}
use Rattle.dali_concurrent.specs.Holds.{IsLed}
use Rattle.dali_concurrent.proofs.Lists.{each_front}
use Rattle.dali_locked.specs.Begun.{Begun, outset, FromEach, may_add, Led, LedFrom}

-- a note of this table and number
pub same_sight : (n : Sight Item) (t : TableId) (k : ℕ) → n.table ≡ t → n.number ≡ k → n ≡ record { table = t; number = k; seen = n.seen }
same_sight n t k e f = λ i. record { table = e i; number = f i; seen = n.seen }

-- an entry with one step that calls no store
pub one_silent : (s : StoreStep) → is_silent s ≡ true → (i : ℕ) (x : StoreStep) → slice_get (s ∷ []) i ≡ Some x → is_silent x ≡ true
one_silent s h zero x e = subst (λ z. is_silent z ≡ true) (some_same e) h
one_silent s h (suc i) x e = absurd (cc)

module _ (b : Begun) where
  -- a history that others may have led on
  pub led_now : (seen now : History) → Led b seen → AllMay (may_add b) now → Led b now
  led_now seen now led all s p each = record { led = record { begins = (led s p each).led.begins; all = λ i e at. all i e at s p each }; count = (led s p each).count }

  pub front_may : (A B : History) → AllMay (may_add b) (A ++ B) → AllMay (may_add b) A
  front_may A B all = each_front (may_add b) A B all

  -- two notes add an entry: what each relies on is so of wherever the history has come
  pub may_add_both : (x y : Sight Item) (item : Item) → Led b x.seen
      → ((s : Start) (p : Point) → b.each s p → (now : History) → LedFrom b s p now → IsSeen now x.number x.seen → IsSeen now y.number y.seen
      → Follows (bases_of s) p (outset b s p) now (x.number ∷ y.number ∷ [], item))
      → MayAdd (may_add b) (x ∷ y ∷ []) item
  may_add_both x y item led each now saw all s p from = each s p from now (led_now x.seen now led all s p from) saw.0 saw.1.0

  -- what they have seen behind it
  pub record Behind (s : Start) (p : Point) (x y : Sight Item) (item : Item) (new : History) : Type 0 where
    pub now : History
    pub mine : IsSeen now x.number x.seen
    pub theirs : IsSeen now y.number y.seen
    pub is : new ≡ now ++ (x.number ∷ y.number ∷ [], item) ∷ []
    pub before : LedFrom b s p now
    pub behind : LedFrom b s p new

  pub added_both : (x y : Sight Item) (item : Item) (new : History) → Led b x.seen → Added (x ∷ y ∷ []) item new → AllMay (may_add b) new
      → (s : Start) (p : Point) → b.each s p → Behind s p x y item new
  added_both x y item new led added all s p from = record {
    now = added.0;
    mine = added.1.0;
    theirs = added.1.1.0;
    is = added.2;
    before = led_now x.seen added.0 led (front_may added.0 (signed_by (x ∷ y ∷ []) item ∷ []) (subst (AllMay (may_add b)) added.2 all)) s p from;
    behind = led_now x.seen new led all s p from;
  }
