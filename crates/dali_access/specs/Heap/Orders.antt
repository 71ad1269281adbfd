-- What a put reads, and which operations do the same before a put and after it.
--     states_before c        the state words of the cells before c
--     PutReads               a put reads the states of the cells before the first free one, and that cell whole; where none is free, the states of all
--     OperationsCommute      operations on two cells do and find the same in either order
--     StaysFirst us d o      where the words of cell d are as in us, and all others as before, a put still ends as o says: cell d isn't the one that was taken, and stands behind it or isn't free
--     PutCommutes            a put and an operation on another cell do and find the same in either order, unless the operation frees a cell that the put has passed
--     Passes d o             a put that ends as o says has passed cell d
--     PutTakesFreed          where the operation does free such a cell, the put after it takes that one
use Rattle.std.specs.Prelude.{◌≡◌, ◌≢◌, ℕ, ◌-◌, ◌<◌, ◌≤◌, ◌⊎◌, List, [], ◌∷◌, ◌++◌, length, map, zip}
use Rattle.dali_words.specs.Values.{packed}
use Rattle.dali_words.specs.Words.{row_of}
use Rattle.dali_words.specs.Effects.{effect_of}
use Rattle.dali_words.specs.Laws.{AnswersCommute}
use Rattle.dali_access.specs.declared.heap.PutOutcome.{PutOutcome}
use Rattle.dali_access.specs.declared.heap.PutOutcome.TheVariants.{Put, NoCell}
use Rattle.dali_access.specs.Heap.Cells.{state_word, cell_words, state_of}
use Rattle.dali_access.specs.Heap.Operations.{CellOperation, done}
use Rattle.dali_access.specs.Heap.Rows as rows

abbrev pub states_before : ℕ → List ℕ
states_before c = map state_word (row_of 1 (c - 1))

pub record PutReads : Type 0 where
  pub put : (ws v : List ℕ) (key c : ℕ) → 1 ≤ c → c ≤ 7 → state_of ws c ≡ 0 → ((d : ℕ) → 1 ≤ d → d < c → state_of ws d ≢ 0) → rows.put ws key v ≡ (effect_of ws (states_before c ++ cell_words c) (zip (cell_words c) (1 ∷ key ∷ length v ∷ packed v)), Put c)
  pub none : (ws v : List ℕ) (key : ℕ) → ((d : ℕ) → 1 ≤ d → d ≤ 7 → state_of ws d ≢ 0) → rows.put ws key v ≡ (effect_of ws (states_before 8) [], NoCell)

abbrev pub OperationsCommute : Type 0
OperationsCommute = (o p : CellOperation) (c d : ℕ) → c ≢ d → (ws : List ℕ) → AnswersCommute (done o c) (done p d) ws

abbrev pub StaysFirst : List ℕ → ℕ → PutOutcome → Type 0
StaysFirst us d (Put c) = (d ≢ c) × ((c < d) ⊎ (state_of us d ≢ 0))
StaysFirst us d NoCell = state_of us d ≢ 0

abbrev pub PutCommutes : Type 0
PutCommutes =
    (o : CellOperation) (d key : ℕ) (v ws : List ℕ) → StaysFirst (done o d ws).0.after d (rows.put ws key v).1
    → AnswersCommute (λ us. rows.put us key v) (done o d) ws

abbrev pub Passes : ℕ → PutOutcome → Type 0
Passes d (Put c) = d < c
Passes d NoCell = d ≤ 7

abbrev pub PutTakesFreed : Type 0
PutTakesFreed =
    (o : CellOperation) (d key : ℕ) (v ws : List ℕ) → 1 ≤ d → Passes d (rows.put ws key v).1 → state_of (done o d ws).0.after d ≡ 0
    → (rows.put (done o d ws).0.after key v).1 ≡ Put d
