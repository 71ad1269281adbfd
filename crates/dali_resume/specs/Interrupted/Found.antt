-- What a crash of a run leaves is what a restart finds.
--     NoneMissed c             no stray write was missed by an audit
--     IsResting F              no record stands in the last epoch, and a run may start from the files
--     FindsIt F                the files of a crash image, of which a restart finds a record in the last epoch
--     FormatHasPlace           the image of a format's files stands behind the first batch, as does that of files behind a restart (TurnedHasPlace)
--     StartHasPlace            and that of a run's start, where it has no checkpoint's image or its log has a record behind the format
--     KeepsPlace               so it stays along any steps
--     CrashIsFound             so it is of each crash image that came along steps from a start, and of each moment inside a step, whether its log is a
--                              history or not. Where no stray write was missed its files fit its log, which is lawful
use Rattle.std.specs.Prelude.{◌≡◌, ◌⊎◌, ◌<◌, ◌≤◌, ◌+◌, ◌^◌, ℕ, false, List, [], ◌∷◌, Some, length, slice_get}
use Rattle.dali_geometry.specs.Sizes.{Sizes}
use Rattle.dali_record.specs.declared.records.Record.{Record}
use Rattle.dali_record.specs.Epochs.{last_epoch}
use Rattle.dali_record.specs.Files.{Files}
use Rattle.dali_record.specs.Legal.{sizes_of}
use Rattle.dali_history.specs.Recovered.{base_of}
use Rattle.dali_region.specs.State.{RegionState}
use Rattle.dali_runs.specs.State.{CoreState}
use Rattle.dali_runs.specs.Run.{log_in}
use Rattle.dali_crash.specs.Checkpoints.{StoreStep, Inside, IsPointStep, Point, Traced}
use Rattle.dali_crash.specs.Fitting.{FitsWhole}
use Rattle.dali_crash.specs.Starts.{IsFormatted, IsLawful}
use Rattle.dali_crash.specs.Traces.{Start, StartsAt, start_point}
use Rattle.dali_resume.specs.Interrupted.Stages.{HasPlace, IsRestarting, IsFound, IsTurned}

abbrev pub NoneMissed : CoreState → Type 0
NoneMissed c = (r : ℕ) (g : RegionState) → slice_get c.regions r ≡ Some g → g.missed ≡ false

-- no record stands in the last epoch, and the files fit their log there as they are: a run may start from them
pub record IsResting (F : Files) : Type 0 where
  pub none : (last_epoch (log_in F)).records ≡ []
  pub files : FitsWhole (sizes_of (log_in F)) (base_of (sizes_of (log_in F)) (log_in F)) (log_in F) F (last_epoch (log_in F))

pub record FindsIt (F : Files) : Type 0 where
  pub lawful : IsLawful (log_in F)
  pub found : IsFound (log_in F) F.batches F.gates F
  -- the anchor may be moved
  pub few : F.gates ≤ length (log_in F) + 2 ^ 61
  pub restarting : (r : Record) (E : List Record) → (last_epoch (log_in F)).records ≡ r ∷ E → IsRestarting (log_in F) F.batches
  -- behind their image stands no record, or a Restarted alone
  pub resting : (last_epoch (log_in F)).records ≡ [] → length (log_in F) ≤ F.first + 1 → IsResting F

-- ---- the image's place
abbrev pub FormatHasPlace : Type 0
FormatHasPlace = (s : Sizes) (F : Files) → IsFormatted s F → HasPlace F

abbrev pub TurnedHasPlace : Type 0
TurnedHasPlace = (L : List Record) (B : List (List Record)) (n : ℕ) (F : Files) → IsRestarting L B → IsTurned L B n F → HasPlace F

abbrev pub StartHasPlace : Type 0
StartHasPlace = (s : Start) (D : Files) → StartsAt s D → (s.vault.current ≡ 0) ⊎ (1 < length s.log) → HasPlace D

abbrev pub KeepsPlace : Type 0
KeepsPlace =
    (s : Start) (D : Files) → StartsAt s D → HasPlace D
    → (xs : List StoreStep) (p : Point) (F : Files) → Traced (start_point s) D xs p F
    → HasPlace F

-- ---- a crash
abbrev pub CrashIsFound : Type 0
CrashIsFound =
    (s : Start) (D : Files) → StartsAt s D → HasPlace D
    → (xs : List StoreStep) (p : Point) (E : Files) → Traced (start_point s) D xs p E → NoneMissed p.core
    → FindsIt E × ((x : StoreStep) (q : Point) (F : Files) → IsPointStep p x q → Inside p x E F → FindsIt F)
