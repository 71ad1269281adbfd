-- An undo finds its slot as its transaction left it: of a cell state, key, length and value, of an entry state, key and place.
--     cell_slot, entry_slot        the words of a cell, and of an entry
--     slot_at image p              the words of the slot that the undo p names
--     slot_by op key old           the words that an operation with an undo leaves in its slot, which had the words old
--     IsPushed t K n i b p         the block b at place i of K left the undo p to t, as its undo number n, and it has stood since
--     IsAsLeft base K t n p image      in the image that undo's slot is as this block left it
--     moment image K before t n    the image once the undos of the transactions before t, and those of t above number n, are taken back
--     FindAsLeft base K image order    in this order of the transactions each undo finds its slot so
--     OneBlockLeaves               one block left it
--     KeptUndosFind                so it is at each moment of the kept records of the law of kept records, in any order of those without a Commit
--     OwnUndosFind                 and of each of these by itself, whatever others leave
--     IsTakenBack, BacksFind       so it was where a block took an undo back
--     IsEpochOn L e base           e is an epoch of the history L, and honest over base
--     EpochUndosFind               so it is in each epoch of a history, in any order of those that a restart of it rolls back
--     EpochMomentsFind, EpochBacksFind      and was there at each moment, and where a block took an undo back
--     RestartUndosFind             so it is in the epoch that a restart recovers
use Rattle.std.specs.Prelude.{◌≡◌, ℕ, ◌+◌, ◌<◌, ◌≤◌, true, false, List, [], ◌∷◌, ◌++◌, Some, length, take, drop, reverse, slice_get, Contains, IsPermutation}
use Rattle.dali_words.specs.Values.{packed}
use Rattle.dali_geometry.specs.Sizes.{Sizes}
use Rattle.dali_access.specs.Heap.Cells as cell
use Rattle.dali_access.specs.Index.Entries as entry
use Rattle.dali_record.specs.declared.operations.Op.{Op}
use Rattle.dali_record.specs.declared.operations.Op.TheVariants.{Add, KillEntry, Put, Change, KillCell}
use Rattle.dali_record.specs.declared.operations.Block.{Block}
use Rattle.dali_record.specs.declared.operations.Pending.{Pending}
use Rattle.dali_record.specs.declared.operations.Undo.{Undo}
use Rattle.dali_record.specs.declared.operations.Undo.TheVariants.{FreeCell as UndoFreeCell, ReviveCell as UndoReviveCell, Restore as UndoRestore, FreeEntry as UndoFreeEntry, ReviveEntry as UndoReviveEntry}
use Rattle.dali_record.specs.declared.records.Record.{Record}
use Rattle.dali_record.specs.declared.records.Record.TheVariants.{Forward, Back}
use Rattle.dali_record.specs.Operations.{undo_op}
use Rattle.dali_record.specs.Log.{undos_of, undo_added, committed}
use Rattle.dali_record.specs.Epochs.{Epoch, epochs, last_epoch}
use Rattle.dali_record.specs.Damage.{has}
use Rattle.dali_record.specs.Settled.{words_in, redo_all}
use Rattle.dali_record.specs.Legal.{sizes_of}
use Rattle.dali_history.specs.Serial.{Map}
use Rattle.dali_history.specs.Marked.{marks_of, kept_of}
use Rattle.dali_history.specs.Undos.{finds, undos_in, undone}
use Rattle.dali_history.specs.Recovered.{losers, base_of, IsHonestIn}
use Rattle.dali_history.specs.History.{IsHistory}
use Rattle.dali_history.specs.Kept.Kept.{AreKept, uncommitted}
use Rattle.dali_history.specs.Headline.Holds.{Holds}

-- ---- slots
abbrev pub cell_slot : List ℕ → ℕ → List ℕ
cell_slot ws c = cell.state_of ws c ∷ cell.key_of ws c ∷ cell.length_of ws c ∷ cell.value_of ws c

abbrev pub entry_slot : List ℕ → ℕ → List ℕ
entry_slot ws e = entry.state_of ws e ∷ entry.key_of ws e ∷ entry.place_of ws e ∷ []

abbrev pub slot_in : List ℕ → Undo → List ℕ
slot_in ws (UndoFreeCell c) = cell_slot ws c
slot_in ws (UndoReviveCell c) = cell_slot ws c
slot_in ws (UndoRestore c n vs) = cell_slot ws c
slot_in ws (UndoFreeEntry e) = entry_slot ws e
slot_in ws (UndoReviveEntry e) = entry_slot ws e

abbrev pub slot_at : List (List ℕ) → Pending → List ℕ
slot_at image p = slot_in (words_in image p.region) p.undo

abbrev pub slot_by : Op → ℕ → List ℕ → List ℕ
slot_by (Put v) key old = 1 ∷ key ∷ length v ∷ packed v
slot_by (Change c v) key old = 1 ∷ key ∷ length v ∷ packed v
slot_by (KillCell c) key old = 2 ∷ drop 1 old
slot_by (Add p) key old = 1 ∷ key ∷ p ∷ []
slot_by (KillEntry e) key old = 2 ∷ drop 1 old
slot_by _ key old = old

-- ---- the block that left an undo
pub record IsPushed (t : ℕ) (K : List Record) (n i : ℕ) (b : Block) (p : Pending) : Type 0 where
  pub block : slice_get K i ≡ Some (Forward t b)
  pub adds : undo_added b b.undo ≡ p ∷ []
  pub below : length (undos_of t (take i K)) ≡ n
  pub stands : (j : ℕ) → i < j → j ≤ length K → n < length (undos_of t (take j K))

pub record IsAsLeft (base : List (List ℕ)) (K : List Record) (t n : ℕ) (p : Pending) (image : List (List ℕ)) : Type 0 where
  pub place : ℕ
  pub block : Block
  pub pushed : IsPushed t K n place block p
  -- its state is the one that the undo undoes, its key the undo's
  pub found : finds image p ≡ true
  -- word by word what stood there right behind the block
  pub as_left : slot_at image p ≡ slot_at (redo_all base (take (place + 1) K)) p
  -- which is what the block's operation leaves there
  pub written : slot_at (redo_all base (take (place + 1) K)) p ≡ slot_by block.op block.key (slot_at (redo_all base (take place K)) p)

-- ---- the undos of many transactions, one transaction after another, each list from its last
abbrev pub moment : List (List ℕ) → List Record → List ℕ → ℕ → ℕ → List (List ℕ)
moment image K before t n = undone image (undos_in before K ++ reverse (drop (n + 1) (undos_of t K)))

abbrev pub FindAsLeft : List (List ℕ) → List Record → List (List ℕ) → List ℕ → Type 0
FindAsLeft base K image order =
    (before behind : List ℕ) (t n : ℕ) (p : Pending) → order ≡ before ++ t ∷ behind → slice_get (undos_of t K) n ≡ Some p
    → IsAsLeft base K t n p (moment image K before t n)

-- one block left it
abbrev pub OneBlockLeaves : Type 0
OneBlockLeaves = (t n i j : ℕ) (K : List Record) (b c : Block) (p q : Pending) → IsPushed t K n i b p → IsPushed t K n j c q → (i ≡ j) × (p ≡ q)

abbrev pub KeptUndosFind : Type 0
KeptUndosFind =
    (s : Sizes) (base : List (List ℕ)) (cuts : List ℕ) (K : List Record) → AreKept s base cuts K
    → (i : ℕ) (order : List ℕ) → IsPermutation order (uncommitted (take i K)) → FindAsLeft base (take i K) (redo_all base (take i K)) order

abbrev pub OwnUndosFind : Type 0
OwnUndosFind =
    (s : Sizes) (base : List (List ℕ)) (cuts : List ℕ) (K : List Record) → AreKept s base cuts K
    → (i t : ℕ) → has (committed (take i K)) t ≡ false → FindAsLeft base (take i K) (redo_all base (take i K)) (t ∷ [])

-- ---- taking back, in the records
pub record IsTakenBack (base : List (List ℕ)) (J : List Record) (t : ℕ) (b : Block) : Type 0 where
  pub number : ℕ
  pub undo : Pending
  pub last : length (undos_of t J) ≡ number + 1
  pub is : slice_get (undos_of t J) number ≡ Some undo
  pub key : b.key ≡ undo.key
  pub region : b.region ≡ undo.region
  pub op : b.op ≡ undo_op undo.undo
  pub as_left : IsAsLeft base J t number undo (redo_all base J)

abbrev pub BacksFind : Type 0
BacksFind =
    (s : Sizes) (base : List (List ℕ)) (cuts : List ℕ) (K : List Record) → AreKept s base cuts K
    → (i t : ℕ) (b : Block) → slice_get K i ≡ Some (Back t b) → IsTakenBack base (take i K) t b

-- ---- histories
-- an epoch of a history, over a base from which it is honest
pub record IsEpochOn (L : List Record) (e : Epoch) (base : List (List ℕ)) : Type 0 where
  pub history : IsHistory L
  pub epoch : Contains (epochs L) e
  pub honest : IsHonestIn base e
  pub map : Map
  pub holds : Holds (sizes_of L) base map

abbrev pub EpochUndosFind : Type 0
EpochUndosFind =
    (L : List Record) (e : Epoch) (base : List (List ℕ)) → IsEpochOn L e base
    → (order : List ℕ) → IsPermutation order (losers e (marks_of e)) → FindAsLeft base (kept_of e) (redo_all base (kept_of e)) order

abbrev pub EpochMomentsFind : Type 0
EpochMomentsFind =
    (L : List Record) (e : Epoch) (base : List (List ℕ)) → IsEpochOn L e base
    → (i : ℕ) (order : List ℕ) → IsPermutation order (uncommitted (take i (kept_of e))) → FindAsLeft base (take i (kept_of e)) (redo_all base (take i (kept_of e))) order

abbrev pub EpochBacksFind : Type 0
EpochBacksFind =
    (L : List Record) (e : Epoch) (base : List (List ℕ)) → IsEpochOn L e base
    → (i t : ℕ) (b : Block) → slice_get (kept_of e) i ≡ Some (Back t b) → IsTakenBack base (take i (kept_of e)) t b

abbrev pub RestartUndosFind : Type 0
RestartUndosFind =
    (L : List Record) → IsHistory L
    → (order : List ℕ) → IsPermutation order (losers (last_epoch L) (marks_of (last_epoch L)))
    → FindAsLeft (base_of (sizes_of L) L) (kept_of (last_epoch L)) (redo_all (base_of (sizes_of L) L) (kept_of (last_epoch L))) order
