-- The index's invariant. An image is the list of its regions, each a list of 64 words: first the index regions, then the heap regions.
--     IsImage s image          as many regions as the sizes say, each of 64 words
--     IsLiveEntry, IsUsedEntry s image r e       entry e of region r is live; is live or dead
--     IsLiveCell s image r c   cell c of region r is live
--     IsIndexed s image        the invariant, where no call is under way
--     IsTidy s image           no state is 2, and no live cell has an odd length
-- Where calls are under way, an insert may have stored a cell that no entry names yet, and a delete may have killed a cell that an entry still names; an abort passes through the same two. So each key has a gap:
--     HasEntry s image k r e   entry e of region r is live and has key k
--     HasCell s image k p      the cell at place p is live and has key k
--     HasDeadEntry, HasDeadCell      the same of a dead one
--     Matched                  the live entry of the key, if there is one, names its live cell, and there is no other live entry or cell
--     CellAlone p              the live cell at place p is the only one, and there is no live entry
--     EntryAlone r e           entry e of region r is the only live one, its cell is dead, and there is no live cell
--     Fits s image k g         the gap of key k is g
--     IsIndexedBut s image gaps      the invariant, where each key has the gap that gaps tells
--     with_gap k g gaps        gaps, but that of key k is g
use Rattle.std.specs.Prelude.{◌≡◌, ℕ, ◌+◌, ◌<◌, ◌⊎◌, true, List, length, if◌then◌else◌, ◌==◌}
use Rattle.dali_words.specs.Values.{is_size}
use Rattle.dali_geometry.specs.Sizes.{Sizes}
use Rattle.dali_geometry.specs.Places.{is_heap, is_place, region_at, cell_at, place}
use Rattle.dali_access.specs.Heap.Cells as cell
use Rattle.dali_access.specs.Index.Entries as entry
use Rattle.dali_access.specs.Index.Records.{words_of, is_reached}

pub record IsImage (s : Sizes) (image : List (List ℕ)) : Type 0 where
  pub some_index : 0 < s.index
  pub some_heap : 0 < s.heap
  pub count : length image ≡ s.index + s.heap
  pub words : (r : ℕ) → r < s.index + s.heap → length (words_of image r) ≡ 64

abbrev pub IsLiveEntry : Sizes → List (List ℕ) → ℕ → ℕ → Type 0
IsLiveEntry s image r e = (r < s.index) × (e < 21) × (entry.state_of (words_of image r) e ≡ 1)

abbrev pub IsUsedEntry : Sizes → List (List ℕ) → ℕ → ℕ → Type 0
IsUsedEntry s image r e = (r < s.index) × (e < 21) × ((entry.state_of (words_of image r) e ≡ 1) ⊎ (entry.state_of (words_of image r) e ≡ 2))

abbrev pub IsLiveCell : Sizes → List (List ℕ) → ℕ → ℕ → Type 0
IsLiveCell s image r c = (is_heap s r ≡ true) × (0 < c) × (c < 8) × (cell.state_of (words_of image r) c ≡ 1)

abbrev pub entry_key : List (List ℕ) → ℕ → ℕ → ℕ
entry_key image r e = entry.key_of (words_of image r) e

abbrev pub entry_place : List (List ℕ) → ℕ → ℕ → ℕ
entry_place image r e = entry.place_of (words_of image r) e

abbrev pub cell_key : List (List ℕ) → ℕ → ℕ → ℕ
cell_key image r c = cell.key_of (words_of image r) c

pub record IsIndexed (s : Sizes) (image : List (List ℕ)) : Type 0 where
  pub one_entry : (r e q f : ℕ) → IsLiveEntry s image r e → IsLiveEntry s image q f → entry_key image r e ≡ entry_key image q f → (r ≡ q) × (e ≡ f)
  pub reached : (r e : ℕ) → IsUsedEntry s image r e → is_reached s image (entry_key image r e) r ≡ true
  pub names_cell : (r e : ℕ) → IsLiveEntry s image r e → (is_place s (entry_place image r e) ≡ true) × IsLiveCell s image (region_at (entry_place image r e)) (cell_at (entry_place image r e)) × (cell_key image (region_at (entry_place image r e)) (cell_at (entry_place image r e)) ≡ entry_key image r e)
  pub is_named : (r c : ℕ) → IsLiveCell s image r c → (q e : ℕ) × IsLiveEntry s image q e × (entry_place image q e ≡ place r c)

pub record IsTidy (s : Sizes) (image : List (List ℕ)) : Type 0 where
  pub entries : (r e : ℕ) → r < s.index → e < 21 → entry.state_of (words_of image r) e < 2
  pub cells : (r c : ℕ) → is_heap s r ≡ true → 0 < c → c < 8 → cell.state_of (words_of image r) c < 2
  pub sizes : (r c : ℕ) → IsLiveCell s image r c → is_size (cell.length_of (words_of image r) c) ≡ true

-- ---- the slots of a key
abbrev pub EntryIs : Sizes → List (List ℕ) → ℕ → ℕ → ℕ → ℕ → Type 0
EntryIs s image k r e state = (r < s.index) × (e < 21) × (entry.state_of (words_of image r) e ≡ state) × (entry_key image r e ≡ k)

abbrev pub CellIs : Sizes → List (List ℕ) → ℕ → ℕ → ℕ → Type 0
CellIs s image k p state = (is_place s p ≡ true) × (cell.state_of (words_of image (region_at p)) (cell_at p) ≡ state) × (cell_key image (region_at p) (cell_at p) ≡ k)

abbrev pub HasEntry : Sizes → List (List ℕ) → ℕ → ℕ → ℕ → Type 0
HasEntry s image k r e = EntryIs s image k r e 1

abbrev pub HasDeadEntry : Sizes → List (List ℕ) → ℕ → ℕ → ℕ → Type 0
HasDeadEntry s image k r e = EntryIs s image k r e 2

abbrev pub HasCell : Sizes → List (List ℕ) → ℕ → ℕ → Type 0
HasCell s image k p = CellIs s image k p 1

abbrev pub HasDeadCell : Sizes → List (List ℕ) → ℕ → ℕ → Type 0
HasDeadCell s image k p = CellIs s image k p 2

abbrev pub HasNoEntry : Sizes → List (List ℕ) → ℕ → Type 0
HasNoEntry s image k = (r e : ℕ) → ¬ HasEntry s image k r e

-- ---- gaps
pub data Gap : Type 0 where
  Matched : Gap
  CellAlone : ℕ → Gap
  EntryAlone : ℕ → ℕ → Gap

pub record IsMatched (s : Sizes) (image : List (List ℕ)) (k : ℕ) : Type 0 where
  pub one_entry : (r e q f : ℕ) → HasEntry s image k r e → HasEntry s image k q f → (r ≡ q) × (e ≡ f)
  pub names_cell : (r e : ℕ) → HasEntry s image k r e → HasCell s image k (entry_place image r e)
  pub is_named : (p : ℕ) → HasCell s image k p → (r e : ℕ) × HasEntry s image k r e × (entry_place image r e ≡ p)

pub record IsCellAlone (s : Sizes) (image : List (List ℕ)) (k p : ℕ) : Type 0 where
  pub cell : HasCell s image k p
  pub one_cell : (q : ℕ) → HasCell s image k q → q ≡ p
  pub no_entry : HasNoEntry s image k

pub record IsEntryAlone (s : Sizes) (image : List (List ℕ)) (k r e : ℕ) : Type 0 where
  pub entry : HasEntry s image k r e
  pub one_entry : (q f : ℕ) → HasEntry s image k q f → (q ≡ r) × (f ≡ e)
  pub dead : HasDeadCell s image k (entry_place image r e)
  pub no_cell : (p : ℕ) → ¬ HasCell s image k p

abbrev pub Fits : Sizes → List (List ℕ) → ℕ → Gap → Type 0
Fits s image k Matched = IsMatched s image k
Fits s image k (CellAlone p) = IsCellAlone s image k p
Fits s image k (EntryAlone r e) = IsEntryAlone s image k r e

pub record IsIndexedBut (s : Sizes) (image : List (List ℕ)) (gaps : ℕ → Gap) : Type 0 where
  pub reached : (r e : ℕ) → IsUsedEntry s image r e → is_reached s image (entry_key image r e) r ≡ true
  pub keys : (k : ℕ) → Fits s image k (gaps k)

abbrev pub with_gap : ℕ → Gap → (ℕ → Gap) → ℕ → Gap
with_gap k g gaps q = if q == k then g else gaps q
