-- What a restart finds before it reads a record behind the current image, or the first place at which the files are bad so far.
--     first_header s           what stands for the header of an image before the first checkpoint
--     expected s c n           what the log and the anchor want of the header of image c
--     BeginsWith fs s          the log begins with the first batch of these sizes
--     IsNoImage, IsImageIn   before the first checkpoint the formatted regions count as the image; else it is read in its file
--     IsOpened fs o            this is found in these files
--     IsInRange s h image m    what is found of an image of these sizes is in range, whatever a store tells
--     IsBadLog, IsBadAnchor, IsBadImage     the files are bad here: the log's first batch; the anchor; the current image
--     IsBadStore fs file at    one of these, the earlier ones first
use Rattle.std.specs.Prelude.{◌≡◌, ◌⊎◌, ◌<◌, ◌^◌, ℕ, List, [], ◌∷◌, Some, None, length}
use Rattle.std.specs.FinMap as finite
use Rattle.dali_geometry.specs.Sizes.{Sizes}
use Rattle.dali_geometry.specs.Places.{regions, formatted_image}
use Rattle.dali_att.specs.Table.{Table, undos_at}
use Rattle.dali_record.specs.declared.operations.Pending.{Pending}
use Rattle.dali_record.specs.declared.records.Record.TheVariants.{Format}
use Rattle.dali_record.specs.Spelling.{CanBeSpelled}
use Rattle.dali_store.specs.declared.store.FileName.{FileName}
use Rattle.dali_store.specs.declared.store.FileName.TheVariants.{Log, Anchor}
use Rattle.dali_store.specs.Store.{Files as Disk, file_of}
use Rattle.dali_log.specs.Log.{IsBadFirst, IsRun}
use Rattle.dali_log.specs.Stream.{Reading, IsReadFrom}
use Rattle.dali_crash.specs.Checkpoints.{side_of}
use Rattle.dali_crash.specs.Disks.Disks.{image_name}
use Rattle.dali_log.specs.Anchors.{IsAnchor}
use Rattle.dali_image.specs.Headers.{HasHeading, NoHeading, bad_header}
use Rattle.dali_image.specs.Reading.{NoAnchor, ReadsRegions, ReadsTable, NoTable}
use Rattle.dali_image.specs.Rows.{AreUndos}
use Rattle.dali_image.specs.Laws.{IsHeader}
use Rattle.dali_image.specs.declared.header.Header.{Header}
use Rattle.dali_image.specs.declared.header.Expected.{Expected}

-- the table without a row has four bytes
abbrev pub first_header : Sizes → Header
first_header s = record { geometry = s; number = 0; place = 15; first = 1; weight = 10; next = 1; table = 4 }

abbrev pub expected : Sizes → ℕ → ℕ → Expected
expected s c n = record { geometry = s; number = c; log = n }

pub record BeginsWith (fs : Disk) (s : Sizes) : Type 0 where
  pub spelled : CanBeSpelled (Format s.index s.heap)
  pub end : ℕ
  pub first : IsRun fs.log 0 ((Format s.index s.heap ∷ []) ∷ []) end

-- ---- the current image
pub record IsNoImage (s : Sizes) (h : Header) (image : List (List ℕ)) (m : Table Pending) : Type 0 where
  pub header : h ≡ first_header s
  pub words : image ≡ formatted_image s
  pub table : m ≡ finite.empty

pub record IsImageIn (file : List ℕ) (x : Expected) (h : Header) (image : List (List ℕ)) (m : Table Pending) : Type 0 where
  pub header : HasHeading file h
  pub fits : IsHeader h
  pub good : bad_header h x ≡ None
  pub table : ReadsTable file h m
  pub whole : length image ≡ regions h.geometry
  pub words : ReadsRegions file 0 image

-- the image with the number c
abbrev pub file_in : Disk → ℕ → List ℕ
file_in fs c = file_of (image_name (side_of c)) fs

pub record IsFoundIn (fs : Disk) (s : Sizes) (c : ℕ) (h : Header) (image : List (List ℕ)) (m : Table Pending) : Type 0 where
  pub none : c ≡ 0 → IsNoImage s h image m
  pub some : 0 < c → IsImageIn (file_in fs c) (expected s c (length fs.log)) h image m

pub record IsOpened (fs : Disk) (s : Sizes) (c : ℕ) (h : Header) (image : List (List ℕ)) (m : Table Pending) (r : Reading) : Type 0 where
  pub log : BeginsWith fs s
  pub anchor : IsAnchor fs.anchor c
  pub image_is : IsFoundIn fs s c h image m
  pub reader : IsReadFrom fs.log h.place [] [] r

pub record IsInRange (s : Sizes) (h : Header) (image : List (List ℕ)) (m : Table Pending) : Type 0 where
  pub geometry : h.geometry ≡ s
  pub first : (0 < h.first) × (h.first < 2 ^ 40)
  pub weight : h.weight < 2 ^ 40
  pub next : (0 < h.next) × (h.next < 2 ^ 40)
  pub whole : length image ≡ regions s
  pub undos : (t : ℕ) → AreUndos (undos_at m t)

-- ---- what is bad
pub record IsBadLog (fs : Disk) (file : FileName) (at : ℕ) : Type 0 where
  pub name : file ≡ Log
  pub bad : IsBadFirst fs.log at

pub record IsBadAnchor (fs : Disk) (file : FileName) (at : ℕ) : Type 0 where
  pub sizes : Sizes
  pub log : BeginsWith fs sizes
  pub name : file ≡ Anchor
  pub bad : NoAnchor fs.anchor at

-- the header isn't there, or is wrong, or the table is
pub record IsWrong (bytes : List ℕ) (x : Expected) (at : ℕ) : Type 0 where
  pub header : Header
  pub fits : IsHeader header
  pub there : HasHeading bytes header
  pub wrong : (bad_header header x ≡ Some at) ⊎ ((bad_header header x ≡ None) × NoTable bytes header at)

abbrev pub BadImageAt : List ℕ → Expected → ℕ → Type 0
BadImageAt bytes x at = NoHeading bytes at ⊎ IsWrong bytes x at

pub record IsBadImage (fs : Disk) (s : Sizes) (c : ℕ) (file : FileName) (at : ℕ) : Type 0 where
  pub some : 0 < c
  pub name : file ≡ image_name (side_of c)
  pub bad : BadImageAt (file_in fs c) (expected s c (length fs.log)) at

pub record IsBadCurrent (fs : Disk) (file : FileName) (at : ℕ) : Type 0 where
  pub sizes : Sizes
  pub log : BeginsWith fs sizes
  pub current : ℕ
  pub anchor : IsAnchor fs.anchor current
  pub bad : IsBadImage fs sizes current file at

abbrev pub IsBadStore : Disk → FileName → ℕ → Type 0
IsBadStore fs file at = IsBadLog fs file at ⊎ IsBadAnchor fs file at ⊎ IsBadCurrent fs file at
