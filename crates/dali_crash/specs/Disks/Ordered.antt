-- A new image file is written in order: its header, its regions, and its table.
--     IsWrittenInOrder s h words old files new     the file is old, then files 0 behind the header, files r behind r regions, and new behind the table
--     OrderedIsRead            no write begins behind the file's end, whatever the file was before; and what was written is read there
use Rattle.std.specs.Prelude.{◌≡◌, ℕ, ◌+◌, ◌<◌, ◌≤◌, List, length}
use Rattle.dali_geometry.specs.Sizes.{Sizes}
use Rattle.dali_geometry.specs.Places.{regions}
use Rattle.dali_record.specs.Spelling.{words_bytes}
use Rattle.dali_store.specs.Store.{Holds}
use Rattle.dali_crash.specs.Checkpoints.{Head}
use Rattle.dali_crash.specs.Disks.Disks.{header_bytes, table_bytes}
use Rattle.dali_crash.specs.Disks.Places.{place_of, ReadsPlaces, ReadsHead}

pub record IsWrittenInOrder (s : Sizes) (h : Head) (words : ℕ → List ℕ) (old : List ℕ) (files : ℕ → List ℕ) (new : List ℕ) : Type 0 where
  pub header : Holds old 0 (header_bytes s h) (files 0)
  pub region : (r : ℕ) → r < regions s → Holds (files r) (place_of r) (words_bytes (words r)) (files (r + 1))
  pub table : Holds (files (regions s)) (place_of (regions s)) (table_bytes h.table) new

pub record IsReadInOrder (s : Sizes) (h : Head) (words : ℕ → List ℕ) (files : ℕ → List ℕ) (new : List ℕ) : Type 0 where
  -- where the next write begins, the last of them that of the table
  pub inside : (r : ℕ) → r ≤ regions s → place_of r ≤ length (files r)
  pub places : ReadsPlaces s words new
  pub head : ReadsHead s h new

abbrev pub OrderedIsRead : Type 0
OrderedIsRead =
    (s : Sizes) (h : Head) (words : ℕ → List ℕ) (old : List ℕ) (files : ℕ → List ℕ) (new : List ℕ) → ((r : ℕ) → r < regions s → length (words r) ≡ 64)
    → IsWrittenInOrder s h words old files new → IsReadInOrder s h words files new
