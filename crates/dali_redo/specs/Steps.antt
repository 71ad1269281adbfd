-- What a call makes of a redo.
--     Advances m n r           the table n has come behind the record r, where m stood before it
--     IsCleared m              who is committed has no undos in the table m
--     Applies x y r            y is x behind a record whose block was written
--     Skips x y r              y is x behind one that was skipped
--     Performs o m im jm       jm is im with the undos of both tables performed, each list from its last, the transactions ascending
--     RollsBack x y            y is x with its undos performed, and empty tables
use Rattle.std.specs.Prelude.{◌≡◌, ℕ, true, false, not, ◌&&◌, ◌||◌, List, [], Some, fold}
use Rattle.std.specs.FinMap as map
use Rattle.std.specs.List.Sorted.{IsStrictlyIncreasing}
use Rattle.dali_att.specs.declared.state.State.TheVariants.{Committed}
use Rattle.dali_att.specs.Table.{Table, state_at, undos_at}
use Rattle.dali_record.specs.declared.operations.Pending.{Pending}
use Rattle.dali_record.specs.declared.records.Record.{Record}
use Rattle.dali_record.specs.Damage.{has}
use Rattle.dali_record.specs.Files.{is_restarted}
use Rattle.dali_record.specs.Settled.{redo}
use Rattle.dali_history.specs.Recovered.{roll_back}
use Rattle.dali_resume.specs.Tests.{Known, known_next, status_next}
use Rattle.dali_redo.specs.Redoing.{Redoing, Knows, status_at, is_left, performed, performed_in, is_of}

abbrev pub Advances : Table Pending → Table Pending → Record → Type 0
Advances m n r = (t : ℕ) → status_at n t ≡ status_next t (status_at m t) r

abbrev pub IsCleared : Table Pending → Type 0
IsCleared m = (t : ℕ) → state_at m t ≡ Some Committed → undos_at m t ≡ []

pub record Applies (x y : Redoing) (r : Record) : Type 0 where
  pub sizes : y.sizes ≡ x.sizes
  pub image : y.image ≡ redo x.image r
  pub knows : (k : Known) → Knows x k → Knows y (known_next k r)
  -- a Restarted ends the epoch
  pub left : (t : ℕ) → is_left y t ≡ (not (is_restarted r) && is_left x t)
  pub performed : (t : ℕ) → is_left y t ≡ true → performed y t ≡ performed x t

pub record Skips (x y : Redoing) (r : Record) : Type 0 where
  pub sizes : y.sizes ≡ x.sizes
  pub image : y.image ≡ x.image
  pub knows : (k : Known) → Knows x k → Knows y (known_next k r)
  pub left : (t : ℕ) → is_left y t ≡ (not (is_restarted r) && (is_left x t || is_of t r))
  pub performed : is_restarted r ≡ false → (t : ℕ) → performed y t ≡ performed x t

-- no other transaction has an undo that is performed
abbrev pub Covers : Table Pending → Table Pending → List ℕ → Type 0
Covers left table ts = (t : ℕ) → has ts t ≡ false → performed_in left table t ≡ []

abbrev pub rolled : Table Pending → Table Pending → List (List ℕ) → List ℕ → List (List ℕ)
rolled left table image ts = fold (λ im t. roll_back im (performed_in left table t)) image ts

abbrev pub Performs : Table Pending → Table Pending → List (List ℕ) → List (List ℕ) → Type 0
Performs left table image new = (ts : List ℕ) → IsStrictlyIncreasing ts → Covers left table ts → new ≡ rolled left table image ts

pub record RollsBack (x y : Redoing) : Type 0 where
  pub image : Performs x.left x.table x.image y.image
  pub rest : y ≡ record { sizes = x.sizes; image = y.image; table = map.empty; left = map.empty; next = x.next }
