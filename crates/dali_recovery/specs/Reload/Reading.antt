-- A log from an image's place on, read through a recovery.
--     IsAtImage log s F r x      the reader r stands at the place of the image of the files F, and the recovery x behind that image, without a scan
--     Passes s F bs              each record of these batches passes the tests of either kind
--     HasRecords log p bs rs     behind the batches bs, which stand at place p, stands one that begins with the records rs
--     IsReloaded log s F o       the log is batches up to its end, and o is what these files with them hand out
--     FailsAt log s F at         the record that begins at this place is the first that fails a test of either kind, whatever stands behind it
--     IsBadBehind log s F at     the bytes are bad, this is the first bad place, and all records that were read before it pass
--     IsUnscanned log s F        an audit of an epoch failed that is to be recovered, at a Restarted or at the log's end, and all records before it pass
--     Reloads, IsBadAt           so it is for all files whose image the reader and the recovery stand at
--     TakesAt x y g              the recovery takes the record g, which stands where it may
--     TakesNext x y n g m        and counts it
--     RefusesAt x y g e          what the error e tells of it
--     EndRefuses x e             and what it tells of the end
use Rattle.std.specs.Prelude.{◌≡◌, ◌⊎◌, ◌<◌, ◌≤◌, ◌+◌, ◌^◌, ℕ, ⊤, true, false, List, [], ◌∷◌, ◌++◌, None, IsSome, length}
use Rattle.std.specs.List.{list_all}
use Rattle.dali_geometry.specs.Sizes.{Sizes}
use Rattle.dali_record.specs.declared.records.Record.{Record}
use Rattle.dali_record.specs.Files.{Files, is_restarted, is_restarted_first}
use Rattle.dali_record.specs.Spelling.{record_length}
use Rattle.dali_log.specs.declared.reader.Placed.{Placed}
use Rattle.dali_log.specs.Finding.{BatchAt}
use Rattle.dali_log.specs.Log.{AreSpelled, BadBehind, IsRun, TailOf, body_bytes}
use Rattle.dali_log.specs.Stream.{IsReadFrom, Reading, place_of}
use Rattle.dali_resume.specs.Batches.{records_of, verdict_over}
use Rattle.dali_resume.specs.Onward.{HandedOut, Misfit as NamedMisfit, goes_through}
use Rattle.dali_resume.specs.Tests.{known_at, tests}
use Rattle.dali_recovery.specs.Laws.{IsBehind, outcome_of}
use Rattle.dali_recovery.specs.Standing.{EndFails, EndsScanned, Fails, Takes}
use Rattle.dali_recovery.specs.declared.error.RecoveryError.TheVariants.{Misfit, Unscanned as EpochUnscanned, OutOfMemory as RecoveryMemory}
use Rattle.dali_recovery.specs.declared.recovery.Recovery.{Recovery}
use Rattle.dali_recovery.specs.Reload.Counting.{AreCounted, one_more}
use Rattle.dali_recovery.specs.declared.reload.counts.Counts.{Counts}
use Rattle.dali_recovery.specs.declared.reload.error.ReloadError.{ReloadError}
use Rattle.dali_recovery.specs.declared.reload.error.ReloadError.TheVariants.{Fault, BadLog, Unscanned, OutOfMemory}
use Rattle.dali_recovery.specs.declared.reload.reading.Reloaded.{Reloaded}

-- the numbers of the records stay below 2^64, since a log is shorter than 2^62
pub record IsAtImage (log : List ℕ) (s : Sizes) (F : Files) (r : Reading) (x : Recovery) : Type 0 where
  pub first : F.first < 2 ^ 63
  pub read : IsReadFrom log F.place [] [] r
  pub behind : IsBehind s F [] x
  pub plain : x.scan ≡ None

pub record Passes (s : Sizes) (F : Files) (bs : List (List Record)) : Type 0 where
  pub rules : IsSome (tests s F.first (known_at F.first F.next F.table) (records_of bs))
  pub first : list_all is_restarted_first bs ≡ true

pub record HasRecords (log : List ℕ) (p : ℕ) (bs : List (List Record)) (rs : List Record) : Type 0 where
  pub place : ℕ
  pub run : IsRun log p bs place
  pub spelled : AreSpelled rs
  pub rest : List ℕ
  pub batch : BatchAt log place (body_bytes rs ++ rest)

-- ---- the log's end
pub record IsReloaded (log : List ℕ) (s : Sizes) (F : Files) (o : Reloaded) : Type 0 where
  pub batches : List (List Record)
  pub tail : TailOf log F.place batches o.end
  pub verdict : verdict_over s F batches ≡ HandedOut (outcome_of o.recovered)
  pub number : o.recovered.number ≡ F.first + length (records_of batches)
  pub next : o.recovered.next ≡ (goes_through s F (records_of batches)).known.next
  pub counted : AreCounted F.place batches o.counts

abbrev pub Reloads : List ℕ → Reading → Recovery → Reloaded → Type 0
Reloads log r x o = (s : Sizes) (F : Files) → IsAtImage log s F r x → IsReloaded log s F o

-- ---- a bad place
pub record FailsAt (log : List ℕ) (s : Sizes) (F : Files) (at : ℕ) : Type 0 where
  pub front : List (List Record)
  pub done : List Record
  pub failing : Record
  pub stands : HasRecords log F.place front (done ++ failing ∷ [])
  pub place : at ≡ place_of F.place front done
  pub verdict : (rest : List Record) (more : List (List Record))
      → verdict_over s F (front ++ (done ++ failing ∷ rest) ∷ more) ≡ NamedMisfit (F.first + length (records_of front ++ done))

pub record IsBadBehind (log : List ℕ) (s : Sizes) (F : Files) (at : ℕ) : Type 0 where
  pub front : List (List Record)
  pub done : List Record
  pub bad : BadBehind log F.place front at
  -- no record of its batch that wasn't read stands before it
  pub reached : at ≤ place_of F.place front done
  pub read : (done ≡ []) ⊎ HasRecords log F.place front done
  pub passes : Passes s F (front ++ done ∷ [])

abbrev pub IsBadAt : List ℕ → Reading → Recovery → ℕ → Type 0
IsBadAt log r x at = (s : Sizes) (F : Files) → IsAtImage log s F r x → IsBadBehind log s F at ⊎ FailsAt log s F at

-- ---- an epoch that has to be read again
pub record IsUnscanned (log : List ℕ) (s : Sizes) (F : Files) : Type 0 where
  pub front : List (List Record)
  pub passes : Passes s F front
  pub failed : (goes_through s F (records_of front)).known.failed ≡ true
  pub ends : ((e : ℕ) × TailOf log F.place front e) ⊎ ((r : Record) × (is_restarted r ≡ true) × HasRecords log F.place front (r ∷ []))

-- ---- one record
abbrev pub TakesAt : Recovery → Recovery → Placed → Type 0
TakesAt x y g = (is_restarted g.entry ≡ true → g.first ≡ true) × Takes x y g.entry × EndsScanned x g.entry

-- and counts it
abbrev pub TakesNext : Recovery → Recovery → Counts → Placed → Counts → Type 0
TakesNext x y n g m = TakesAt x y g × (n.records + 1 < 2 ^ 64 → n.bytes + record_length g.entry < 2 ^ 64 → m ≡ one_more n g)

abbrev pub RefusesAt : Recovery → Recovery → Placed → ReloadError → Type 0
RefusesAt x y g Fault = ⊥
RefusesAt x y g (BadLog at) = (at ≡ g.at) × (((is_restarted g.entry ≡ true) × (g.first ≡ false)) ⊎ Fails x y g.entry Misfit)
RefusesAt x y g Unscanned = (is_restarted g.entry ≡ true → g.first ≡ true) × Fails x y g.entry EpochUnscanned
RefusesAt x y g OutOfMemory = ⊤

abbrev pub EndRefuses : Recovery → ReloadError → Type 0
EndRefuses x Fault = ⊥
EndRefuses x (BadLog at) = ⊥
EndRefuses x Unscanned = EndFails x EpochUnscanned
EndRefuses x OutOfMemory = EndFails x RecoveryMemory
