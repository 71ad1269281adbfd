-- What the bytes of the four files spell.
--     image_bytes s h image    an image file for these sizes: header, regions and table
--     CanBeImage s h image     its numbers, regions and rows fit their fields
--     IsImageOf s bytes h image        the file begins with these bytes
--     unchecked s batches      the files of these batches, before the first checkpoint
--     Spells disk F            the bytes of the four files spell F: a log, an anchor, and the image that it names
--     SpellsOne                and no other
--     AllSpell may P           each disk of these spells files that have P: none drops out
use Rattle.std.specs.Prelude.{◌≡◌, ℕ, ◌<◌, ◌^◌, Bool, true, List, [], ◌∷◌, ◌++◌, Some, length, map, flat_map, codes}
use Rattle.std.specs.List.{AllByRecursion}
use Rattle.dali_geometry.specs.Sizes.{Sizes}
use Rattle.dali_geometry.specs.Places.{regions, is_index, is_heap, formatted_image}
use Rattle.dali_bytes.specs.Fields.{number32, number64}
use Rattle.dali_record.specs.declared.operations.Undo.{Undo}
use Rattle.dali_record.specs.declared.operations.Undo.TheVariants.{FreeCell, ReviveCell, Restore, FreeEntry, ReviveEntry}
use Rattle.dali_record.specs.declared.operations.Pending.{Pending}
use Rattle.dali_record.specs.declared.records.Record.{Record}
use Rattle.dali_record.specs.declared.records.Record.TheVariants.{Format}
use Rattle.dali_record.specs.Blocks.{AllAreWords}
use Rattle.dali_record.specs.Spelling.{fields, flag_bytes, words_bytes, undo_bytes, IsUndo, Is32, Is64, ascends, record_length}
use Rattle.dali_record.specs.Legal.{sizes_of}
use Rattle.dali_record.specs.Files.{Files, Row}
use Rattle.dali_region.specs.declared.Side.{Side}
use Rattle.dali_region.specs.declared.Side.TheVariants.{A, B}
use Rattle.dali_store.specs.declared.store.FileName.{FileName}
use Rattle.dali_store.specs.declared.store.FileName.TheVariants.{ImageA, ImageB}
use Rattle.dali_store.specs.Store.{Files as Disk}
use Rattle.dali_runs.specs.Run.{log_in}
use Rattle.dali_crash.specs.Checkpoints.{Head, side_of}
use Rattle.dali_log.specs.Anchors.{IsAnchor}
use Rattle.dali_log.specs.Log.{LogOf}

-- ---- an image file
abbrev pub pending_bytes : Pending → List ℕ
pending_bytes u = fields (number64 u.key ∷ number32 u.region ∷ undo_bytes (Some u.undo) ∷ [])

abbrev pub row_bytes : Row → List ℕ
row_bytes row = fields (number64 row.txn ∷ flag_bytes row.is_committed ∷ number32 (length row.undos) ∷ flat_map pending_bytes row.undos ∷ [])

abbrev pub table_bytes : List Row → List ℕ
table_bytes rows = fields (number32 (length rows) ∷ flat_map row_bytes rows ∷ [])

abbrev pub mark : List ℕ
mark = codes "DALIIMG1"

abbrev pub header_bytes : Sizes → Head → List ℕ
header_bytes s h = fields (mark ∷ number32 s.index ∷ number32 s.heap ∷ number64 h.number ∷ number64 h.place ∷ number64 h.first ∷ number64 h.weight ∷ number64 h.next ∷ number64 (length (table_bytes h.table)) ∷ [])

abbrev pub image_bytes : Sizes → Head → List (List ℕ) → List ℕ
image_bytes s h image = fields (header_bytes s h ∷ flat_map words_bytes image ∷ table_bytes h.table ∷ [])

-- ---- what fits its fields
abbrev pub undoes_on : Sizes → ℕ → Undo → Bool
undoes_on s r (FreeCell c) = is_heap s r
undoes_on s r (ReviveCell c) = is_heap s r
undoes_on s r (Restore c n words) = is_heap s r
undoes_on s r (FreeEntry e) = is_index s r
undoes_on s r (ReviveEntry e) = is_index s r

pub record IsPendingIn (s : Sizes) (u : Pending) : Type 0 where
  pub key : Is64 u.key
  pub region : Is32 u.region
  pub undo : IsUndo u.undo
  pub kind : undoes_on s u.region u.undo ≡ true

pub record IsRowIn (s : Sizes) (next : ℕ) (row : Row) : Type 0 where
  pub txn : row.txn < next
  pub count : Is32 (length row.undos)
  pub undos : AllByRecursion (IsPendingIn s) row.undos
  pub committed : row.is_committed ≡ true → row.undos ≡ []

abbrev pub txn_in : Row → ℕ
txn_in row = row.txn

pub record CanBeImage (s : Sizes) (h : Head) (image : List (List ℕ)) : Type 0 where
  pub number : Is64 h.number
  pub place : Is64 h.place
  pub first : h.first < 2 ^ 40
  pub weight : h.weight < 2 ^ 40
  pub some : 0 < h.next
  pub next : h.next < 2 ^ 40
  pub whole : length image ≡ regions s
  pub words : AllAreWords image
  pub count : Is32 (length h.table)
  pub size : Is64 (length (table_bytes h.table))
  pub rows : AllByRecursion (IsRowIn s h.next) h.table
  pub ascending : ascends (map txn_in h.table) ≡ true

-- bytes behind the table aren't looked at
pub record IsImageOf (s : Sizes) (bytes : List ℕ) (h : Head) (image : List (List ℕ)) : Type 0 where
  pub fits : CanBeImage s h image
  pub rest : List ℕ
  pub spells : bytes ≡ image_bytes s h image ++ rest

-- ---- the four files
abbrev pub image_file : Side → Disk → List ℕ
image_file A disk = disk.a
image_file B disk = disk.b

abbrev pub image_name : Side → FileName
image_name A = ImageA
image_name B = ImageB

-- head and table of the current image
abbrev pub head_of : Files → Head
head_of F = record { number = F.number; place = F.place; first = F.first; weight = F.weight; next = F.next; table = F.table }

abbrev pub sizes_in : Files → Sizes
sizes_in F = sizes_of (log_in F)

-- no image is read, and the formatted regions count as one
abbrev pub unchecked : Sizes → List (List Record) → Files
unchecked s batches = record {
  batches = batches;
  gates = 0;
  number = 0;
  place = 15;
  first = 1;
  weight = record_length (Format s.index s.heap);
  next = 1;
  image = formatted_image s;
  table = [];
}

pub record Spells (disk : Disk) (F : Files) : Type 0 where
  pub end : ℕ
  pub log : LogOf disk.log F.batches end
  pub anchor : IsAnchor disk.anchor F.gates
  pub none : F.gates ≡ 0 → F ≡ unchecked (sizes_in F) F.batches
  pub image : 0 < F.gates → IsImageOf (sizes_in F) (image_file (side_of F.gates) disk) (head_of F) F.image

abbrev pub SpellsOne : Type 0
SpellsOne = (disk : Disk) (F G : Files) → Spells disk F → Spells disk G → F ≡ G

abbrev pub AllSpell : (Disk → Type 0) → (Files → Type 0) → Type 0
AllSpell may P = (c : Disk) → may c → (F : Files) × Spells c F × P F
