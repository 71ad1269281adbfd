-- Laws of the operations on cells.
--     InCell c e             e reads words of cell c alone
--     StaysIn c f            f reads words of cell c alone, writes words that it reads, and depends on nothing else
--     OperationsStay         so do the operations that name a cell
--     CellsCommute           operations on two cells do the same in either order
--     PutsWithin             a put writes words that it reads
--     UndoesKill, UndoesChange      the words come back
--     UndoesPut              all words come back but those behind the state of the cell, which is free again
--     TakesFirst ws o        o tells the first free cell, or that none is free
use Rattle.std.specs.Prelude.{◌≡◌, ◌≢◌, ℕ, ◌+◌, ◌*◌, ◌<◌, ◌≤◌, ◌⊎◌, List, length, slice_index}
use Rattle.std.specs.Int.{bit_at}
use Rattle.dali_words.specs.declared.Effect.{Effect}
use Rattle.dali_words.specs.declared.KillOutcome.TheVariants.{Killed}
use Rattle.dali_words.specs.Effects.{IsWithin, DependsOnReads}
use Rattle.dali_words.specs.Laws.{Commute}
use Rattle.dali_access.specs.declared.heap.PutOutcome.{PutOutcome}
use Rattle.dali_access.specs.declared.heap.PutOutcome.TheVariants.{Put, NoCell}
use Rattle.dali_access.specs.declared.heap.ChangeOutcome.TheVariants.{Changed}
use Rattle.dali_access.specs.Heap.Cells.{state_of, length_of, value_of}
use Rattle.dali_access.specs.Heap.Rows as rows

abbrev pub InCell : ℕ → Effect → Type 0
InCell c e = (i : ℕ) → bit_at e.read i ≡ 1 → (8 * c ≤ i) × (i < 8 * c + 8)

pub record StaysIn (c : ℕ) (f : List ℕ → Effect) : Type 0 where
  pub reads : (ws : List ℕ) → InCell c (f ws)
  pub within : (ws : List ℕ) → IsWithin ws (f ws)
  pub depends : (ws : List ℕ) → DependsOnReads f ws

pub record OperationsStay : Type 0 where
  pub read : (c key : ℕ) → StaysIn c (λ ws. (rows.read ws c key).0)
  pub change : (c key : ℕ) (v : List ℕ) → StaysIn c (λ ws. (rows.change ws c key v).0)
  pub kill : (c key : ℕ) → StaysIn c (λ ws. (rows.kill ws c key).0)
  pub free : (c : ℕ) → StaysIn c (λ ws. rows.free ws c)
  pub revive : (c : ℕ) → StaysIn c (λ ws. rows.revive ws c)
  pub restore : (c n : ℕ) (vs : List ℕ) → StaysIn c (λ ws. rows.restore ws c n vs)

abbrev pub CellsCommute : Type 0
CellsCommute = (f g : List ℕ → Effect) (c d : ℕ) → c ≢ d → StaysIn c f → StaysIn d g → (ws : List ℕ) → Commute f g ws

abbrev pub PutsWithin : Type 0
PutsWithin = (key : ℕ) (v ws : List ℕ) → IsWithin ws (rows.put ws key v).0

-- ---- what is undone right away
abbrev pub UndoesKill : Type 0
UndoesKill =
    (ws : List ℕ) (c key : ℕ) → (rows.kill ws c key).1 ≡ Killed
    → (rows.revive (rows.kill ws c key).0.after c).after ≡ ws

abbrev pub UndoesChange : Type 0
UndoesChange =
    (ws v : List ℕ) (c key : ℕ) → length ws ≡ 64 → c ≤ 7 → (rows.change ws c key v).1 ≡ Changed
    → (rows.restore (rows.change ws c key v).0.after c (length_of ws c) (value_of ws c)).after ≡ ws

abbrev pub UndoesPut : Type 0
UndoesPut =
    (ws v : List ℕ) (c key : ℕ) → length ws ≡ 64 → (rows.put ws key v).1 ≡ Put c
    → let us = (rows.free (rows.put ws key v).0.after c).after in (length us ≡ 64) × ((i : ℕ) → (i ≤ 8 * c) ⊎ (8 * c + 8 ≤ i) → slice_index us i ≡ slice_index ws i)

-- ---- the first free cell
abbrev pub TakesFirst : List ℕ → PutOutcome → Type 0
TakesFirst ws (Put c) = (1 ≤ c) × (c ≤ 7) × (state_of ws c ≡ 0) × ((d : ℕ) → 1 ≤ d → d < c → state_of ws d ≢ 0)
TakesFirst ws NoCell = (d : ℕ) → 1 ≤ d → d ≤ 7 → state_of ws d ≢ 0

abbrev pub PutTakesFirst : Type 0
PutTakesFirst = (ws v : List ℕ) (key : ℕ) → TakesFirst ws (rows.put ws key v).1
