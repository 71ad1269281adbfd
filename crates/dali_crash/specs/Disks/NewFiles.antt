-- What reads give of the image files along the steps of checkpoints, whatever bytes and whatever length they had at the start. A place is known once it was
-- written since the load: what a crash left of a file, cut inside a place or inside a word, is never asked for.
--     ReadsCopies p fs         each place that was written since the load reads the words that the point says, in both image files
--     IsUnderWay p h k fs      the file of the next image has the header of h and is long enough for the place of region k, and each place before was written
--     StartReads               so it is at a start, where no place was written
--     HeaderReads, CopyReads, TableReads       behind each write of a checkpoint
--     QuietReads               and behind each step that leaves the image files, the anchor's move and a skip among them
--     HasPlaces                so where a region's flag for a side is clear, the file of that side has its place
--     HeaderBegins             the header's write, over whatever the file was, begins a file
--     CopyContinues            a copy of region k, or of one before it, writes within the file or at its end, and goes on to k + 1
--     SkipContinues            so does a skip, since the file has the place of a region whose flag is clear
--     QuietContinues           every other step that leaves the file leaves it so
--     TableEnds                behind all regions the table's write makes it read the point's words and head
use Rattle.std.specs.Prelude.{◌≡◌, ◌≤◌, ◌<◌, ℕ, ◌+◌, true, false, List, Some, length, take, drop, is_some, slice_get}
use Rattle.dali_geometry.specs.Places.{regions}
use Rattle.dali_record.specs.declared.records.Record.{Record}
use Rattle.dali_record.specs.Spelling.{words_bytes}
use Rattle.dali_region.specs.declared.Side.{Side}
use Rattle.dali_region.specs.State.{RegionState}
use Rattle.dali_region.specs.Answers.{is_dirty}
use Rattle.dali_store.specs.Store.{Files as Disk, SameBut, Holds}
use Rattle.dali_runs.specs.Run.{Bases, no_image}
use Rattle.dali_crash.specs.Checkpoints.{Head, Point, StoreStep, IsPointStep, Copies, Skips, WritesHead, target}
use Rattle.dali_crash.specs.StoreRuns.{StoreRun}
use Rattle.dali_crash.specs.Traces.{Start, start_point}
use Rattle.dali_crash.specs.Disks.Disks.{header_bytes, table_bytes, image_file, image_name}
use Rattle.dali_crash.specs.Disks.Places.{place_of}
use Rattle.dali_crash.specs.Disks.Bridges.{is_image_write}
use Rattle.dali_crash.specs.Disks.Images.{next_file, ReadsWords, ReadsNextHead}

abbrev pub HasCopy : Point → Side → ℕ → Type 0
HasCopy p side r = is_some (p.copies side r) ≡ true

abbrev pub ReadsCopied : Point → Side → List ℕ → Type 0
ReadsCopied p side bytes = (r : ℕ) → r < regions p.core.system.sizes → HasCopy p side r → take 512 (drop (place_of r) bytes) ≡ words_bytes (p.told side r)

abbrev pub ReadsCopies : Point → Disk → Type 0
ReadsCopies p fs = (side : Side) → ReadsCopied p side (image_file side fs)

pub record IsUnderWay (p : Point) (h : Head) (k : ℕ) (fs : Disk) : Type 0 where
  pub copied : (r : ℕ) → r < k → HasCopy p (target p) r
  pub header : take 64 (next_file p fs) ≡ header_bytes p.core.system.sizes h
  pub long : place_of k ≤ length (next_file p fs)

-- ---- what is read of both files
abbrev pub StartReads : Type 0
StartReads = (s : Start) (fs : Disk) → ReadsCopies (start_point s) fs

abbrev pub QuietReads : Type 0
QuietReads =
    (bases : Bases) (before : List Record) (p q : Point) (x : StoreStep) (old new : Disk) → StoreRun bases before no_image p
    → IsPointStep p x q → is_image_write x ≡ false
    → ((side : Side) → image_file side new ≡ image_file side old)
    → ReadsCopies p old → ReadsCopies q new

-- the header's write, over whatever the file was
abbrev pub HeaderReads : Type 0
HeaderReads =
    (p q : Point) (h : Head) (old new : Disk) → IsPointStep p (WritesHead h) q → SameBut (image_name (target p)) old new
    → Holds (next_file p old) 0 (header_bytes p.core.system.sizes h) (next_file p new)
    → ReadsCopies p old → ReadsCopies q new

-- a region's place is written, from within the file or from its end on
abbrev pub CopyReads : Type 0
CopyReads =
    (bases : Bases) (before : List Record) (p q : Point) (r n : ℕ) (old new : Disk) → StoreRun bases before no_image p
    → IsPointStep p (Copies r n) q → SameBut (image_name (target p)) old new
    → place_of r ≤ length (next_file p old)
    → Holds (next_file p old) (place_of r) (words_bytes (q.told (target p) r)) (next_file p new)
    → ReadsCopies p old → ReadsCopies q new

abbrev pub TableReads : Type 0
TableReads =
    (p q : Point) (h : Head) (old new : Disk) → IsPointStep p (WritesHead h) q → SameBut (image_name (target p)) old new
    → place_of (regions p.core.system.sizes) ≤ length (next_file p old)
    → Holds (next_file p old) (place_of (regions p.core.system.sizes)) (table_bytes h.table) (next_file p new)
    → ReadsCopies p old → ReadsCopies q new

abbrev pub HasPlaces : Type 0
HasPlaces =
    (bases : Bases) (before : List Record) (p : Point) (fs : Disk) → StoreRun bases before no_image p → ReadsCopies p fs
    → (side : Side) (r : ℕ) (g : RegionState) → slice_get p.core.regions r ≡ Some g → is_dirty g side ≡ false
    → place_of (r + 1) ≤ length (image_file side fs)

-- ---- a checkpoint's writes, in order
abbrev pub HeaderBegins : Type 0
HeaderBegins =
    (p q : Point) (h : Head) (old new : Disk) → IsPointStep p (WritesHead h) q
    → Holds (next_file p old) 0 (header_bytes p.core.system.sizes h) (next_file p new)
    → IsUnderWay q h 0 new

pub record Continues (p q : Point) (h : Head) (k r : ℕ) (old new : Disk) : Type 0 where
  pub inside : place_of r ≤ length (next_file p old)
  pub still : IsUnderWay q h k new
  pub further : IsUnderWay q h (r + 1) new

abbrev pub CopyContinues : Type 0
CopyContinues =
    (bases : Bases) (before : List Record) (p q : Point) (h : Head) (k r n : ℕ) (old new : Disk) → StoreRun bases before no_image p
    → IsPointStep p (Copies r n) q → IsUnderWay p h k old → r ≤ k
    → Holds (next_file p old) (place_of r) (words_bytes (q.told (target p) r)) (next_file p new)
    → Continues p q h k r old new

abbrev pub SkipContinues : Type 0
SkipContinues =
    (bases : Bases) (before : List Record) (p q : Point) (h : Head) (k r n : ℕ) (fs : Disk) → StoreRun bases before no_image p
    → IsPointStep p (Skips r n) q → ReadsCopies p fs → IsUnderWay p h k fs → r ≤ k
    → Continues p q h k r fs fs

abbrev pub QuietContinues : Type 0
QuietContinues =
    (p q : Point) (x : StoreStep) (h : Head) (k : ℕ) (old new : Disk) → IsPointStep p x q → is_image_write x ≡ false
    → q.core.vault.current ≡ p.core.vault.current
    → next_file p new ≡ next_file p old
    → IsUnderWay p h k old → IsUnderWay q h k new

pub record IsWholeFile (q : Point) (new : Disk) : Type 0 where
  pub words : ReadsWords q new
  pub head : ReadsNextHead q new

abbrev pub TableEnds : Type 0
TableEnds =
    (p q : Point) (h : Head) (old new : Disk) → IsPointStep p (WritesHead h) q → ReadsCopies p old
    → IsUnderWay p h (regions p.core.system.sizes) old
    → Holds (next_file p old) (place_of (regions p.core.system.sizes)) (table_bytes h.table) (next_file p new)
    → IsWholeFile q new
