-- What is read in the files of a store.
--     NoAnchor bytes at        the anchor is bad: it is empty or has no closed gate, and ends at this place
--     ReadsRegions file from regions    the words of these regions stand in their places, the first of them in that of region from
--     ReadsTable file h m      the table of a file with this header is m
--     NoTable file h at        the file is shorter than its header says, or a field of its table is wrong at this place
use Rattle.std.specs.Prelude.{◌≡◌, ◌⊎◌, ℕ, ◌+◌, ◌*◌, ◌<◌, ◌≤◌, List, length, take, drop, flat_map, Ok, Err}
use Rattle.dali_geometry.specs.Places.{regions}
use Rattle.dali_bytes.specs.Cursor.{IsBytes}
use Rattle.dali_att.specs.Table.{Table}
use Rattle.dali_record.specs.declared.operations.Pending.{Pending}
use Rattle.dali_record.specs.Spelling.{words_bytes}
use Rattle.dali_log.specs.Batch.{IsOpenAt}
use Rattle.dali_crash.specs.Disks.Places.{place_of}
use Rattle.dali_image.specs.Decoding.{table_in}
use Rattle.dali_image.specs.declared.header.Header.{Header}

pub record NoAnchor (bytes : List ℕ) (at : ℕ) : Type 0 where
  pub ends : at ≡ length bytes
  pub gates : (i : ℕ) → i < at → IsOpenAt i bytes

-- so many regions from one on end here
abbrev pub end_of : ℕ → ℕ → ℕ
end_of from n = place_of from + 512 * n

pub record ReadsRegions (file : List ℕ) (from : ℕ) (words : List (List ℕ)) : Type 0 where
  pub inside : end_of from (length words) ≤ length file
  pub spells : take (512 * length words) (drop (place_of from) file) ≡ flat_map words_bytes words

-- the table begins behind the regions
abbrev pub table_place : Header → ℕ
table_place h = place_of (regions h.geometry)

abbrev pub table_part : List ℕ → Header → List ℕ
table_part file h = take h.table (drop (table_place h) file)

pub record ReadsTable (file : List ℕ) (h : Header) (m : Table Pending) : Type 0 where
  pub inside : table_place h + h.table ≤ length file
  pub bytes : IsBytes (table_part file h)
  pub spells : table_in h.geometry h.next (table_part file h) ≡ Ok m

-- at a place of the table itself
pub record HasBadField (file : List ℕ) (h : Header) (at : ℕ) : Type 0 where
  pub inside : table_place h + h.table ≤ length file
  pub field : ℕ
  pub wrong : table_in h.geometry h.next (table_part file h) ≡ Err field
  pub place : at ≡ table_place h + field

abbrev pub NoTable : List ℕ → Header → ℕ → Type 0
NoTable file h at = ((at ≡ 56) × (length file < table_place h + h.table)) ⊎ HasBadField file h at
