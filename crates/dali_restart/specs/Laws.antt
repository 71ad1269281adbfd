-- Laws of what a restart finds before it reads a record behind the current image.
--     files_in c h image rows B    the files of these batches with this image
--     IsSpelledBy              the disk spells such files, with just what was found
--     WhatOpensIsSpelled       so it is of each disk whose log is one: what is found is its image, table and numbers
--     OpensOnce                what is found before the records behind the image is that of one row of files, whatever their batches are
--     ReadsOnce                a disk is read as one thing at most, and then it is nowhere bad
--     IsBadOnce                a disk is bad at one place of one file
--     FoundIsGood              a disk that spells files that are found is nowhere bad, and isn't unformatted; it is read as what their log says, and the
--                              record of the restart fits a batch
--     FitsLawful F             the log of these files is lawful, their image fits it at its last epoch and stands behind a record, and hardly more
--                              checkpoints were made than records stand before it. A record stands behind it, where a gate is open
--     FitIsFound               such files are found, also those that were put together by hand
--     ClosedFormatIsFound      so are those whose log has a Format and a Restarted alone, of which no checkpoint was made
--     OneAnswer                a disk has one answer: its log has no batches, or it is bad at one place of one file, or this is found
use Rattle.std.specs.Prelude.{◌≡◌, ◌<◌, ◌≤◌, ◌+◌, ◌^◌, ℕ, List, [], ◌∷◌}
use Rattle.dali_geometry.specs.Sizes.{Sizes}
use Rattle.dali_att.specs.Table.{Table}
use Rattle.dali_record.specs.declared.operations.Pending.{Pending}
use Rattle.dali_record.specs.declared.records.Record.{Record}
use Rattle.dali_record.specs.declared.records.Record.TheVariants.{Format, Restarted}
use Rattle.dali_record.specs.Blocks.{AllAreWords}
use Rattle.dali_record.specs.Epochs.{last_epoch}
use Rattle.dali_record.specs.Files.{Files, with_batch}
use Rattle.dali_record.specs.Legal.{sizes_of}
use Rattle.dali_record.specs.Spelling.{CanBeSpelled}
use Rattle.dali_history.specs.Recovered.{base_of}
use Rattle.dali_store.specs.declared.store.FileName.{FileName}
use Rattle.dali_store.specs.Store.{Files as Disk}
use Rattle.dali_log.specs.Batch.{IsUnformatted}
use Rattle.dali_log.specs.Log.{LogOf}
use Rattle.dali_log.specs.Stream.{Reading}
use Rattle.dali_runs.specs.Run.{log_in}
use Rattle.dali_crash.specs.Fitting.{FitsWhole}
use Rattle.dali_crash.specs.Starts.{IsFormatted, IsLawful}
use Rattle.dali_crash.specs.Traces.{IsRead}
use Rattle.dali_crash.specs.Disks.Disks.{Spells, head_of}
use Rattle.dali_image.specs.Laws.{header_of, table_of}
use Rattle.dali_image.specs.declared.header.Header.{Header}
use Rattle.dali_resume.specs.Again.{Outcome}
use Rattle.dali_resume.specs.Interrupted.Found.{FindsIt}
use Rattle.dali_restart.specs.Renewal.Logged.{restart_length}
use Rattle.dali_restart.specs.Opening.{IsOpened, IsBadStore}
use Rattle.dali_restart.specs.Restarting.{BeginsAt, IsBadAnywhere, IsReadAs, IsTold}

pub record IsSpelledBy (fs : Disk) (s : Sizes) (c : ℕ) (h : Header) (image : List (List ℕ)) (m : Table Pending) (B : List (List Record))
    (F : Files) : Type 0 where
  pub spells : Spells fs F
  pub batches : F.batches ≡ B
  pub gates : F.gates ≡ c
  pub header : header_of s (head_of F) ≡ h
  pub image_is : F.image ≡ image
  pub table : table_of F.table ≡ m

-- the words fit their type
abbrev pub WhatOpensIsSpelled : Type 0
WhatOpensIsSpelled =
    (fs : Disk) (s : Sizes) (c : ℕ) (h : Header) (image : List (List ℕ)) (m : Table Pending) (r : Reading) (B : List (List Record)) (end : ℕ)
    → IsOpened fs s c h image m r → LogOf fs.log B end → AllAreWords image
    → (F : Files) × IsSpelledBy fs s c h image m B F

pub record AnswersOnce (fs : Disk) : Type 0 where
  pub opened : (s : Sizes) (c : ℕ) (h : Header) (image : List (List ℕ)) (m : Table Pending) (r : Reading) → IsOpened fs s c h image m r → IsUnformatted fs.log
      → ⊥
  pub bad : (file : FileName) (at : ℕ) → IsBadStore fs file at → IsUnformatted fs.log → ⊥
  pub good : (s : Sizes) (c : ℕ) (h : Header) (image : List (List ℕ)) (m : Table Pending) (r : Reading) (file : FileName) (at : ℕ)
      → IsOpened fs s c h image m r → IsBadStore fs file at → ⊥
  pub one : (f g : FileName) (at bt : ℕ) → IsBadStore fs f at → IsBadStore fs g bt → (f ≡ g) × (at ≡ bt)

abbrev pub OneAnswer : Type 0
OneAnswer = (fs : Disk) → AnswersOnce fs

-- ---- a restart
-- so a second reading of a disk begins as the first one did
pub record IsOneOpening (s z : Sizes) (c : ℕ) (h : Header) (image : List (List ℕ)) (m : Table Pending) (F : Files) : Type 0 where
  pub sizes : s ≡ z
  pub gates : c ≡ F.gates
  pub header : h ≡ header_of z (head_of F)
  pub image_is : image ≡ F.image
  pub table : m ≡ table_of F.table

abbrev pub OpensOnce : Type 0
OpensOnce =
    (fs : Disk) (s : Sizes) (c : ℕ) (h : Header) (image : List (List ℕ)) (m : Table Pending) (r : Reading) → IsOpened fs s c h image m r
    → AllAreWords image
    → ((F : Files) × BeginsAt fs s F)
    × ((z : Sizes) (F : Files) → BeginsAt fs z F → IsOneOpening s z c h image m F)

abbrev pub ReadsOnce : Type 0
ReadsOnce =
    (fs : Disk) (o : Outcome) → IsReadAs fs o
    → ((p : Outcome) → IsReadAs fs p → o ≡ p) × ((file : FileName) (at : ℕ) → IsBadAnywhere fs file at → ⊥) × (IsUnformatted fs.log → ⊥)

abbrev pub IsBadOnce : Type 0
IsBadOnce = (fs : Disk) (f g : FileName) (at bt : ℕ) → IsBadAnywhere fs f at → IsBadAnywhere fs g bt → (f ≡ g) × (at ≡ bt)

pub record IsGood (fs : Disk) (F : Files) : Type 0 where
  pub bad : (file : FileName) (at : ℕ) → IsBadAnywhere fs file at → ⊥
  pub formatted : IsUnformatted fs.log → ⊥
  pub told : (o : Outcome) → IsReadAs fs o → IsTold F o
  -- the record of the restart fits a batch
  pub short : (o : Outcome) → IsReadAs fs o → restart_length o.rolled o.deleted ≤ 2 ^ 30

abbrev pub FoundIsGood : Type 0
FoundIsGood = (fs : Disk) (F : Files) → Spells fs F → FindsIt F → IsGood fs F

-- ---- files that no run left
pub record FitsLawful (F : Files) : Type 0 where
  pub lawful : IsLawful (log_in F)
  pub fits : FitsWhole (sizes_of (log_in F)) (base_of (sizes_of (log_in F)) (log_in F)) (log_in F) F (last_epoch (log_in F))
  pub behind : 0 < F.first
  pub moved : F.gates ≤ F.first + 2 ^ 61
  pub read : IsRead F

abbrev pub FitIsFound : Type 0
FitIsFound = (F : Files) → FitsLawful F → FindsIt F

-- those of a format, with a Restarted behind it
abbrev pub ClosedFormatIsFound : Type 0
ClosedFormatIsFound = (s : Sizes) (F : Files) → CanBeSpelled (Format s.index s.heap) → IsFormatted s F → FindsIt (with_batch F (Restarted [] [] ∷ []))
