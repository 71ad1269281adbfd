-- What each operation keeps of the index's invariant, whatever other keys' calls are under way.
--     after s image r e        the image after effect e on region r
--     UnderWay s image k r g gaps    an image of these sizes that is indexed but for the gaps, where the gap of key k is g
--     KeepsBut s image r e k g gaps  after effect e on region r the image is indexed but for the gaps, where the gap of key k is now g
--     Keeps s image r e gaps   the same where no gap changes
use Rattle.std.specs.Prelude.{◌≡◌, ◌≢◌, ℕ, ◌≤◌, true, List, slice_set}
use Rattle.dali_words.specs.declared.Effect.{Effect}
use Rattle.dali_words.specs.declared.KillOutcome.TheVariants.{Killed}
use Rattle.dali_geometry.specs.Sizes.{Sizes}
use Rattle.dali_geometry.specs.Places.{is_index, is_heap, place}
use Rattle.dali_access.specs.declared.heap.PutOutcome.TheVariants.{Put, NoCell}
use Rattle.dali_access.specs.Heap.Rows as heap
use Rattle.dali_access.specs.declared.index.AddOutcome.TheVariants.{Added, NoEntry}
use Rattle.dali_access.specs.Index.Rows as index
use Rattle.dali_access.specs.Index.Records.{words_of, is_reached}
use Rattle.dali_access.specs.Index.Invariant.{IsImage, IsIndexed, IsIndexedBut, Gap, Matched, CellAlone, EntryAlone, with_gap, HasEntry, HasNoEntry, HasDeadEntry, HasDeadCell, entry_place}

abbrev pub after : List (List ℕ) → ℕ → Effect → List (List ℕ)
after image r e = slice_set image r e.after

pub record UnderWay (s : Sizes) (image : List (List ℕ)) (k : ℕ) (g : Gap) (gaps : ℕ → Gap) : Type 0 where
  pub form : IsImage s image
  pub indexed : IsIndexedBut s image gaps
  pub gap : gaps k ≡ g

abbrev pub KeepsBut : Sizes → List (List ℕ) → ℕ → Effect → ℕ → Gap → (ℕ → Gap) → Type 0
KeepsBut s image r e k g gaps = IsImage s (after image r e) × IsIndexedBut s (after image r e) (with_gap k g gaps)

abbrev pub Keeps : Sizes → List (List ℕ) → ℕ → Effect → (ℕ → Gap) → Type 0
Keeps s image r e gaps = IsImage s (after image r e) × IsIndexedBut s (after image r e) gaps

-- without gaps it is the index's invariant
pub record GapsAreNone : Type 0 where
  pub all_matched : (s : Sizes) (image : List (List ℕ)) → IsIndexed s image → IsIndexedBut s image (λ _. Matched)
  pub indexed : (s : Sizes) (image : List (List ℕ)) (gaps : ℕ → Gap) → IsIndexedBut s image gaps → ((k : ℕ) → gaps k ≡ Matched) → IsIndexed s image

-- a value is stored for a key without an entry: its cell is alone
abbrev pub PutKeeps : Type 0
PutKeeps =
    (s : Sizes) (image : List (List ℕ)) (gaps : ℕ → Gap) (k r : ℕ) (v : List ℕ) → UnderWay s image k Matched gaps → is_heap s r ≡ true → HasNoEntry s image k
    → let x = heap.put (words_of image r) k v in ((c : ℕ) → x.1 ≡ Put c → KeepsBut s image r x.0 k (CellAlone (place r c)) gaps) × (x.1 ≡ NoCell → Keeps s image r x.0 gaps)

-- its entry is added in a region that the walk comes to: they match
abbrev pub AddKeeps : Type 0
AddKeeps =
    (s : Sizes) (image : List (List ℕ)) (gaps : ℕ → Gap) (k r p : ℕ) → UnderWay s image k (CellAlone p) gaps → is_index s r ≡ true → is_reached s image k r ≡ true
    → let x = index.add (words_of image r) k p in ((e : ℕ) → x.1 ≡ Added e → KeepsBut s image r x.0 k Matched gaps) × (x.1 ≡ NoEntry → Keeps s image r x.0 gaps)

-- the cell that an entry names is killed: the entry is alone
abbrev pub KillCellKeeps : Type 0
KillCellKeeps =
    (s : Sizes) (image : List (List ℕ)) (gaps : ℕ → Gap) (k r c q e : ℕ) → UnderWay s image k Matched gaps → is_heap s r ≡ true → 1 ≤ c → c ≤ 7 → HasEntry s image k q e → entry_place image q e ≡ place r c
    → let x = heap.kill (words_of image r) c k in (x.1 ≡ Killed → KeepsBut s image r x.0 k (EntryAlone q e) gaps) × (x.1 ≢ Killed → Keeps s image r x.0 gaps)

-- the entry is killed: they match
abbrev pub KillEntryKeeps : Type 0
KillEntryKeeps =
    (s : Sizes) (image : List (List ℕ)) (gaps : ℕ → Gap) (k r e : ℕ) → UnderWay s image k (EntryAlone r e) gaps
    → let x = index.kill (words_of image r) e k in (x.1 ≡ Killed → KeepsBut s image r x.0 k Matched gaps) × (x.1 ≢ Killed → Keeps s image r x.0 gaps)

-- a look, a read and a change leave each gap, and so does the taking back of a change
pub record OthersKeep : Type 0 where
  pub look : (s : Sizes) (image : List (List ℕ)) (gaps : ℕ → Gap) (k r : ℕ) → IsImage s image → IsIndexedBut s image gaps → is_index s r ≡ true → Keeps s image r (index.look (words_of image r) k).0 gaps
  pub read : (s : Sizes) (image : List (List ℕ)) (gaps : ℕ → Gap) (k r c : ℕ) → IsImage s image → IsIndexedBut s image gaps → is_heap s r ≡ true → 1 ≤ c → c ≤ 7 → Keeps s image r (heap.read (words_of image r) c k).0 gaps
  pub change : (s : Sizes) (image : List (List ℕ)) (gaps : ℕ → Gap) (k r c : ℕ) (v : List ℕ) → IsImage s image → IsIndexedBut s image gaps → is_heap s r ≡ true → 1 ≤ c → c ≤ 7 → Keeps s image r (heap.change (words_of image r) c k v).0 gaps
  pub restore : (s : Sizes) (image : List (List ℕ)) (gaps : ℕ → Gap) (r c n : ℕ) (vs : List ℕ) → IsImage s image → IsIndexedBut s image gaps → is_heap s r ≡ true → 1 ≤ c → c ≤ 7 → Keeps s image r (heap.restore (words_of image r) c n vs) gaps

-- ---- what takes back
-- the entry of an add is freed: the cell is alone
abbrev pub FreeEntryKeeps : Type 0
FreeEntryKeeps =
    (s : Sizes) (image : List (List ℕ)) (gaps : ℕ → Gap) (k r e : ℕ) → UnderWay s image k Matched gaps → HasEntry s image k r e
    → KeepsBut s image r (index.free (words_of image r) e) k (CellAlone (entry_place image r e)) gaps

-- the cell of a put is freed: they match
abbrev pub FreeCellKeeps : Type 0
FreeCellKeeps =
    (s : Sizes) (image : List (List ℕ)) (gaps : ℕ → Gap) (k r c : ℕ) → is_heap s r ≡ true → 1 ≤ c → c ≤ 7 → UnderWay s image k (CellAlone (place r c)) gaps
    → KeepsBut s image r (heap.free (words_of image r) c) k Matched gaps

-- a dead entry whose cell is dead is revived: it is alone
abbrev pub ReviveEntryKeeps : Type 0
ReviveEntryKeeps =
    (s : Sizes) (image : List (List ℕ)) (gaps : ℕ → Gap) (k r e : ℕ) → UnderWay s image k Matched gaps → HasNoEntry s image k → HasDeadEntry s image k r e → HasDeadCell s image k (entry_place image r e)
    → KeepsBut s image r (index.revive (words_of image r) e) k (EntryAlone r e) gaps

-- its cell is revived: they match
abbrev pub ReviveCellKeeps : Type 0
ReviveCellKeeps =
    (s : Sizes) (image : List (List ℕ)) (gaps : ℕ → Gap) (k r c q e : ℕ) → is_heap s r ≡ true → 1 ≤ c → c ≤ 7 → UnderWay s image k (EntryAlone q e) gaps → entry_place image q e ≡ place r c
    → KeepsBut s image r (heap.revive (words_of image r) c) k Matched gaps

-- a dead entry is freed, and a dead cell that no live entry of its key names
pub record DeadAreFreed : Type 0 where
  pub entry : (s : Sizes) (image : List (List ℕ)) (gaps : ℕ → Gap) (k r e : ℕ) → IsImage s image → IsIndexedBut s image gaps → HasDeadEntry s image k r e → Keeps s image r (index.free (words_of image r) e) gaps
  pub cell : (s : Sizes) (image : List (List ℕ)) (gaps : ℕ → Gap) (k r c : ℕ) → is_heap s r ≡ true → 1 ≤ c → c ≤ 7 → UnderWay s image k Matched gaps → HasDeadCell s image k (place r c) → Keeps s image r (heap.free (words_of image r) c) gaps

-- ---- whole calls
-- a value is stored and its entry added, with nothing between
abbrev pub InsertKeeps : Type 0
InsertKeeps =
    (s : Sizes) (image : List (List ℕ)) (k r c q e : ℕ) (v : List ℕ) → IsImage s image → IsIndexed s image → HasNoEntry s image k → is_heap s r ≡ true → is_index s q ≡ true → is_reached s image k q ≡ true
    → (heap.put (words_of image r) k v).1 ≡ Put c → (index.add (words_of image q) k (place r c)).1 ≡ Added e
    → IsIndexed s (after (after image r (heap.put (words_of image r) k v).0) q (index.add (words_of image q) k (place r c)).0)

-- the cell that an entry names is killed, and then the entry, with nothing between
abbrev pub DeleteKeeps : Type 0
DeleteKeeps =
    (s : Sizes) (image : List (List ℕ)) (k r c q e : ℕ) → IsImage s image → IsIndexed s image → HasEntry s image k q e → entry_place image q e ≡ place r c → is_heap s r ≡ true → 1 ≤ c → c ≤ 7
    → (heap.kill (words_of image r) c k).1 ≡ Killed → (index.kill (words_of image q) e k).1 ≡ Killed
    → IsIndexed s (after (after image r (heap.kill (words_of image r) c k).0) q (index.kill (words_of image q) e k).0)
