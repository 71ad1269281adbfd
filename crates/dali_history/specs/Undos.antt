-- Undos performed on an image.
--     finds image p            the slot of the undo p is as its transaction left it
--     undos_in ts K            the undos that the records K leave to these transactions, each list from its last
--     undone image ps          the image after these undos
--     FindsAll image ps        each of them finds its slot so, after those before it
use Rattle.std.specs.Prelude.{◌≡◌, ℕ, Bool, true, ◌&&◌, ⊤, List, [], ◌∷◌, ◌++◌, ◌==◌, fold, reverse}
use Rattle.dali_access.specs.Heap.Cells as cell
use Rattle.dali_access.specs.Index.Entries as entry
use Rattle.dali_record.specs.declared.operations.Pending.{Pending}
use Rattle.dali_record.specs.declared.operations.Undo.{Undo}
use Rattle.dali_record.specs.declared.operations.Undo.TheVariants.{FreeCell as UndoFreeCell, ReviveCell as UndoReviveCell, Restore as UndoRestore, FreeEntry as UndoFreeEntry, ReviveEntry as UndoReviveEntry}
use Rattle.dali_record.specs.declared.records.Record.{Record}
use Rattle.dali_record.specs.Log.{undos_of}
use Rattle.dali_record.specs.Settled.{words_in}
use Rattle.dali_history.specs.Recovered.{undo_into}

abbrev pub finds_undo : List ℕ → ℕ → Undo → Bool
finds_undo ws key (UndoFreeCell c) = (cell.state_of ws c == 1) && (cell.key_of ws c == key)
finds_undo ws key (UndoReviveCell c) = (cell.state_of ws c == 2) && (cell.key_of ws c == key)
finds_undo ws key (UndoRestore c n vs) = (cell.state_of ws c == 1) && (cell.key_of ws c == key)
finds_undo ws key (UndoFreeEntry e) = (entry.state_of ws e == 1) && (entry.key_of ws e == key)
finds_undo ws key (UndoReviveEntry e) = (entry.state_of ws e == 2) && (entry.key_of ws e == key)

abbrev pub finds : List (List ℕ) → Pending → Bool
finds image p = finds_undo (words_in image p.region) p.key p.undo

-- the undos of these transactions, each list from its last
abbrev pub undos_in : List ℕ → List Record → List Pending
undos_in [] K = []
undos_in (t ∷ ts) K = reverse (undos_of t K) ++ undos_in ts K

abbrev pub undone : List (List ℕ) → List Pending → List (List ℕ)
undone image ps = fold undo_into image ps

abbrev pub FindsAll : List (List ℕ) → List Pending → Type 0
FindsAll image [] = ⊤
FindsAll image (p ∷ ps) = (finds image p ≡ true) × FindsAll (undo_into image p) ps
