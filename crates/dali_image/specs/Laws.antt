-- Laws of headers and tables.
--     header_of s h            the header of an image with this head
--     IsHeader h               its numbers fit their fields
--     HeadersAreBytes          a header that fits has the bytes that an image begins with
--     OneHeader                a file begins with one header at most, and then isn't bad at a header's place
--     CanBeTable s next rows   rows that a table can have
--     table_of rows            the table with just these rows
--     TablesAreSpelled         what is read as a table is the bytes of rows that a table can have
--     TablesAreReadAgain       what such rows are written as is read as the table with them
--     RowsAreKept              which has just these rows
--     WhatPassesIsAnImage      a file whose header and table pass has header and table of an image
use Rattle.std.specs.Prelude.{◌≡◌, ℕ, ◌<◌, ◌^◌, true, List, [], ◌∷◌, length, map, None, Ok}
use Rattle.std.specs.List.{AllByRecursion}
use Rattle.std.specs.FinMap.{empty}
use Rattle.dali_geometry.specs.Sizes.{Sizes, AreInRange}
use Rattle.dali_geometry.specs.Places.{regions}
use Rattle.dali_bytes.specs.Cursor.{IsBytes}
use Rattle.dali_record.specs.Blocks.{AllAreWords}
use Rattle.dali_att.specs.Table.{Table}
use Rattle.dali_record.specs.declared.operations.Pending.{Pending}
use Rattle.dali_record.specs.Spelling.{Is32, Is64, ascends}
use Rattle.dali_record.specs.Files.{Row}
use Rattle.dali_crash.specs.Checkpoints.{Head}
use Rattle.dali_crash.specs.Disks.Disks.{header_bytes, table_bytes, IsRowIn, txn_in, CanBeImage}
use Rattle.dali_crash.specs.Disks.Places.{ReadsHead}
use Rattle.dali_image.specs.Headers.{heading, HasHeading, NoHeading, bad_header}
use Rattle.dali_image.specs.Rows.{rows_of}
use Rattle.dali_image.specs.Decoding.{with_row, table_in}
use Rattle.dali_image.specs.Reading.{ReadsTable}
use Rattle.dali_image.specs.declared.header.Header.{Header}
use Rattle.dali_image.specs.declared.header.Expected.{Expected}

abbrev pub header_of : Sizes → Head → Header
header_of s h = record { geometry = s; number = h.number; place = h.place; first = h.first; weight = h.weight; next = h.next; table = length (table_bytes h.table) }

abbrev pub HeadersAreBytes : Type 0
HeadersAreBytes = (s : Sizes) (h : Head) → heading (header_of s h) ≡ header_bytes s h

pub record IsHeader (h : Header) : Type 0 where
  pub sizes : AreInRange h.geometry
  pub number : Is64 h.number
  pub place : Is64 h.place
  pub first : Is64 h.first
  pub weight : Is64 h.weight
  pub next : Is64 h.next
  pub table : Is64 h.table

pub record HasOneHeader (bytes : List ℕ) (h : Header) : Type 0 where
  pub same : (k : Header) → IsHeader k → HasHeading bytes k → h ≡ k
  pub good : (at : ℕ) → NoHeading bytes at → ⊥

abbrev pub OneHeader : Type 0
OneHeader = (bytes : List ℕ) (h : Header) → IsHeader h → HasHeading bytes h → HasOneHeader bytes h

pub record CanBeTable (s : Sizes) (next : ℕ) (rows : List Row) : Type 0 where
  pub count : Is32 (length rows)
  pub fit : AllByRecursion (IsRowIn s next) rows
  pub ascending : ascends (map txn_in rows) ≡ true

abbrev pub with_rows : Table Pending → List Row → Table Pending
with_rows m [] = m
with_rows m (row ∷ rows) = with_rows (with_row m row) rows

abbrev pub table_of : List Row → Table Pending
table_of rows = with_rows empty rows

pub record IsSpelled (s : Sizes) (next : ℕ) (bytes : List ℕ) (m : Table Pending) : Type 0 where
  pub list : List Row
  pub fits : CanBeTable s next list
  pub bytes_are : bytes ≡ table_bytes list
  pub table_is : m ≡ table_of list

abbrev pub TablesAreSpelled : Type 0
TablesAreSpelled = (s : Sizes) (next : ℕ) (bytes : List ℕ) (m : Table Pending) → IsBytes bytes → table_in s next bytes ≡ Ok m → IsSpelled s next bytes m

abbrev pub TablesAreReadAgain : Type 0
TablesAreReadAgain = (s : Sizes) (next : ℕ) (rows : List Row) → next < 2 ^ 64 → CanBeTable s next rows → table_in s next (table_bytes rows) ≡ Ok (table_of rows)

abbrev pub RowsAreKept : Type 0
RowsAreKept = (rows : List Row) → ascends (map txn_in rows) ≡ true → rows_of (table_of rows) ≡ rows

-- header and table of a file are those of an image with this head, whatever words stand between them
pub record IsPassed (bytes : List ℕ) (h : Header) (m : Table Pending) : Type 0 where
  pub head : Head
  pub header_is : header_of h.geometry head ≡ h
  pub table_is : m ≡ table_of head.table
  pub reads : ReadsHead h.geometry head bytes
  pub fits : (image : List (List ℕ)) → length image ≡ regions h.geometry → AllAreWords image → CanBeImage h.geometry head image

abbrev pub WhatPassesIsAnImage : Type 0
WhatPassesIsAnImage =
    (bytes : List ℕ) (h : Header) (x : Expected) (m : Table Pending) → IsHeader h
    → HasHeading bytes h → bad_header h x ≡ None → ReadsTable bytes h m → IsPassed bytes h m
