-- Laws of logs, and of batches that are added one after another.
--     HasOneReading bytes     the bytes are unformatted, a log, or bad at a place, and only one of these in only one way
--     LogsGrow                what a crash leaves of a log of records while batches of records are added, and once they have been
--     GoesOnFrom bytes L p    a log that has these batches up to place p is what stands there and what is read from p on, and so is a bad one
--     AppendsGoOn             what a crash leaves over two rows of batches that are added one after the other, and over any number so
use Rattle.std.specs.Prelude.{◌≡◌, ◌⊎◌, ◌≤◌, ℕ, List, ◌++◌, length, take}
use Rattle.dali_bytes.specs.Cursor.{IsBytes}
use Rattle.dali_store.specs.Store.{Files, LeavesOnly}
use Rattle.dali_record.specs.declared.records.Record.{Record}
use Rattle.dali_log.specs.Batch.{IsUnformatted}
use Rattle.dali_log.specs.Appending.{next_place, SomeAdded, AllAdded}
use Rattle.dali_log.specs.Log.{LogOf, BadAt, bodies, TailOf, BadFrom}

pub record HasOneReading (bytes : List ℕ) : Type 0 where
  pub some : IsBytes bytes → IsUnformatted bytes ⊎ ((L : List (List Record)) × (e : ℕ) × LogOf bytes L e) ⊎ ((at : ℕ) × BadAt bytes at)
  pub one_log : (L M : List (List Record)) (e f : ℕ) → LogOf bytes L e → LogOf bytes M f → (L ≡ M) × (e ≡ f)
  pub one_place : (at bt : ℕ) → BadAt bytes at → BadAt bytes bt → at ≡ bt
  pub log_is_good : (L : List (List Record)) (e at : ℕ) → LogOf bytes L e → BadAt bytes at → ⊥
  pub log_is_formatted : (L : List (List Record)) (e : ℕ) → LogOf bytes L e → IsUnformatted bytes → ⊥
  pub bad_is_formatted : (at : ℕ) → BadAt bytes at → IsUnformatted bytes → ⊥

pub record GoesOnFrom (bytes : List ℕ) (L : List (List Record)) (p : ℕ) : Type 0 where
  pub log : (M : List (List Record)) (e : ℕ) → TailOf bytes p M e → LogOf bytes (L ++ M) e
  pub tail : (M : List (List Record)) (e : ℕ) → LogOf bytes (L ++ M) e → TailOf bytes p M e
  pub bad : (at : ℕ) → BadFrom bytes p at → BadAt bytes at

module _ {D : Type 0} (may_leave : D → Files → Type 0) where
  pub record LogsGrow (L more : List (List Record)) (at : ℕ) (old : D) (c : Files) : Type 0 where
    pub some : SomeAdded (may_leave old) at (bodies more) c → (n : ℕ) × (n ≤ length more) × LogOf c.log (L ++ take n more) (next_place at (bodies (take n more)))
    pub all : AllAdded (may_leave old) at (bodies more) c → LogOf c.log (L ++ more) (next_place at (bodies more))

module _ {D : Type 0} (moment : D → ℕ) (left_since : D → ℕ → Files → Type 0) (may_leave : D → Files → Type 0) where
  -- batches were added at the end `at` of the log: what a crash leaves since, and now
  pub record Added (at : ℕ) (more : List (List ℕ)) (old new : D) : Type 0 where
    pub since : LeavesOnly moment left_since old new (SomeAdded (may_leave old) at more)
    pub now : (c : Files) → may_leave new c → AllAdded (may_leave old) at more c

  pub record AppendsGoOn (at : ℕ) (one two : List (List ℕ)) (old mid new : D) : Type 0 where
    pub both : Added at one old mid → Added (next_place at one) two mid new → Added at (one ++ two) old new
    -- the second one was cut off
    pub some : Added at one old mid → LeavesOnly moment left_since mid new (SomeAdded (may_leave mid) (next_place at one) two) → LeavesOnly moment left_since old new (SomeAdded (may_leave old) at (one ++ two))
