-- When a log may answer that a database is full.
--     cell_in region o, entry_in region o          the cell or the entry that an operation with this outcome takes: its region and its number there
--     cell_by r, entry_by r            that of the operation of a record
--     cells_taken L, entries_taken L   those that the operations of L take, one after another
--     is_insert c, inserts_of L t, inserts L       how many inserts of t were answered; those of all transactions that committed
--     steady_step t back r             whether t has taken something back that it didn't answer, or None where it goes on nevertheless
--     IsSteady t L                     whatever t takes back, it answers before its next operation, its commit or its end
--     IsPlain L                        a history of one epoch, in which no audit failed
--     AllAnswer L                      each transaction that began committed, and is steady
--     FullIsFilled                     where an insert is answered FullHeap or FullIndex, each cell or entry was taken before
--     TakesFew                         no more are taken than inserts are answered
--     NoneIsFull                       so none is answered so where there are fewer inserts than cells or entries
use Rattle.std.specs.Prelude.{◌≡◌, ℕ, ◌*◌, ◌<◌, ◌≤◌, Bool, true, false, List, [], ◌==◌, if◌then◌else◌, Option, Some, None, IsSome, fold, filter, filter_map, length, sum_by, Contains}
use Rattle.dali_record.specs.declared.operations.Outcome.{Outcome}
use Rattle.dali_record.specs.declared.operations.Outcome.TheVariants.{Added, Put as PutIn}
use Rattle.dali_record.specs.declared.records.Call.{Call}
use Rattle.dali_record.specs.declared.records.Call.TheVariants.{Insert}
use Rattle.dali_record.specs.declared.records.Answer.TheVariants.{FullHeap, FullIndex}
use Rattle.dali_record.specs.declared.records.Record.{Record}
use Rattle.dali_record.specs.declared.records.Record.TheVariants.{Forward, Back, Done, Commit, Ended}
use Rattle.dali_record.specs.Log.{calls_of, begun, committed}
use Rattle.dali_record.specs.Epochs.{cut, last_epoch, failing}
use Rattle.dali_record.specs.Legal.{sizes_of}
use Rattle.dali_history.specs.History.{IsHistory}

-- ---- what is taken
abbrev pub cell_in : ℕ → Outcome → Option (ℕ × ℕ)
cell_in region (PutIn cell) = Some (region, cell)
cell_in region _ = None

abbrev pub entry_in : ℕ → Outcome → Option (ℕ × ℕ)
entry_in region (Added entry) = Some (region, entry)
entry_in region _ = None

abbrev pub cell_by : Record → Option (ℕ × ℕ)
cell_by (Forward t b) = cell_in b.region b.outcome
cell_by _ = None

abbrev pub entry_by : Record → Option (ℕ × ℕ)
entry_by (Forward t b) = entry_in b.region b.outcome
entry_by _ = None

abbrev pub cells_taken : List Record → List (ℕ × ℕ)
cells_taken L = filter_map cell_by L

abbrev pub entries_taken : List Record → List (ℕ × ℕ)
entries_taken L = filter_map entry_by L

-- ---- what is answered
abbrev pub is_insert : Call → Bool
is_insert (Insert key value) = true
is_insert _ = false

-- whatever the answer is
abbrev pub inserts_of : List Record → ℕ → ℕ
inserts_of L t = length (filter (λ p. is_insert p.0) (calls_of t L))

abbrev pub inserts : List Record → ℕ
inserts L = sum_by (inserts_of L) (committed L)

-- whether t has taken a change back that it didn't answer since
abbrev pub unless : Bool → Option Bool
unless true = None
unless false = Some false

abbrev pub steady_step : ℕ → Bool → Record → Option Bool
steady_step t back (Forward u b) = if u == t then unless back else Some back
steady_step t back (Back u b) = Some (if u == t then true else back)
steady_step t back (Done u c a) = Some (if u == t then false else back)
steady_step t back (Commit u) = if u == t then unless back else Some back
steady_step t back (Ended u) = if u == t then unless back else Some back
steady_step t back _ = Some back

abbrev pub steady_next : ℕ → Option Bool → Record → Option Bool
steady_next t None r = None
steady_next t (Some back) r = steady_step t back r

abbrev pub IsSteady : ℕ → List Record → Type 0
IsSteady t L = IsSome (fold (steady_next t) (Some false) L)

-- ---- the logs
pub record IsPlain (L : List Record) : Type 0 where
  pub history : IsHistory L
  pub no_restart : (cut L).closed ≡ []
  pub no_damage : failing (last_epoch L) ≡ []

pub record AllAnswer (L : List Record) : Type 0 where
  pub commits : (t : ℕ) → Contains (begun L) t → Contains (committed L) t
  pub steady : (t : ℕ) → IsSteady t L

-- ---- laws
abbrev pub FullIsFilled : Type 0
FullIsFilled =
    (L : List Record) (t : ℕ) (c : Call) → IsPlain L
    → (Contains L (Done t c FullHeap) → 7 * (sizes_of L).heap ≤ length (cells_taken L))
    × (Contains L (Done t c FullIndex) → 21 * (sizes_of L).index ≤ length (entries_taken L))

abbrev pub TakesFew : Type 0
TakesFew =
    (L : List Record) → IsPlain L → AllAnswer L
    → (length (cells_taken L) ≤ inserts L) × (length (entries_taken L) ≤ inserts L)

abbrev pub NoneIsFull : Type 0
NoneIsFull =
    (L : List Record) (t : ℕ) (c : Call) → IsPlain L → AllAnswer L
    → (inserts L < 7 * (sizes_of L).heap → Contains L (Done t c FullHeap) → ⊥)
    × (inserts L < 21 * (sizes_of L).index → Contains L (Done t c FullIndex) → ⊥)
