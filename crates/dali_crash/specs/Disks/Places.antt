-- What is read in the places of an image file.
--     place_of r               where the words of region r stand
--     ReadsPlaces s words bytes        each region's place reads these words
--     ReadsHead s h bytes      header and table read this head
--     ImageIsRead              a file that reads so spells an image
--     WriteIsRead              a region's words written in its place are read there, and the other places and the head as before, wherever the file ends
use Rattle.std.specs.Prelude.{◌≡◌, ℕ, ◌+◌, ◌*◌, ◌<◌, ◌≤◌, ◌==◌, false, List, ◌++◌, length, take, drop, map}
use Rattle.std.specs.List.{range_with_len}
use Rattle.dali_geometry.specs.Sizes.{Sizes}
use Rattle.dali_geometry.specs.Places.{regions}
use Rattle.dali_record.specs.Spelling.{words_bytes}
use Rattle.dali_store.specs.Store.{Holds}
use Rattle.dali_crash.specs.Checkpoints.{Head}
use Rattle.dali_crash.specs.Disks.Disks.{header_bytes, table_bytes, CanBeImage, IsImageOf}

abbrev pub place_of : ℕ → ℕ
place_of r = 64 + 512 * r

abbrev pub ReadsPlaces : Sizes → (ℕ → List ℕ) → List ℕ → Type 0
ReadsPlaces s words bytes = (r : ℕ) → r < regions s → take 512 (drop (place_of r) bytes) ≡ words_bytes (words r)

pub record ReadsHead (s : Sizes) (h : Head) (bytes : List ℕ) : Type 0 where
  pub header : take 64 bytes ≡ header_bytes s h
  pub rest : List ℕ
  pub table : drop (place_of (regions s)) bytes ≡ table_bytes h.table ++ rest

abbrev pub ImageIsRead : Type 0
ImageIsRead =
    (s : Sizes) (h : Head) (words : ℕ → List ℕ) (bytes : List ℕ) → ReadsHead s h bytes → ReadsPlaces s words bytes
    → CanBeImage s h (map words (range_with_len 0 (regions s)))
    → IsImageOf s bytes h (map words (range_with_len 0 (regions s)))

-- the same bytes stand in the place of region q
abbrev pub SamePlace : ℕ → List ℕ → List ℕ → Type 0
SamePlace q old new = take 512 (drop (place_of q) new) ≡ take 512 (drop (place_of q) old)

pub record IsWrittenAt (s : Sizes) (r : ℕ) (ws : List ℕ) (old : List ℕ) (new : List ℕ) : Type 0 where
  pub here : take 512 (drop (place_of r) new) ≡ words_bytes ws
  pub others : (q : ℕ) → (q == r) ≡ false → SamePlace q old new
  pub head : (h : Head) → ReadsHead s h old → ReadsHead s h new

abbrev pub WriteIsRead : Type 0
WriteIsRead =
    (s : Sizes) (old new : List ℕ) (r : ℕ) (ws : List ℕ) → r < regions s → length ws ≡ 64 → place_of r ≤ length old
    → Holds old (place_of r) (words_bytes ws) new
    → IsWrittenAt s r ws old new
