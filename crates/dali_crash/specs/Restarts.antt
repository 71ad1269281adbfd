-- A restart from what a crash of a run leaves.
--     HasRightBase bases s L   the base of the last epoch is what restarts gave, and no damage escaped in the epochs before
--     FormatHasRightBase, RestartHasRightBase      so it is where a core is made
--     CrashIsHistory           the log of a crash image is a history
--     CrashIsRight             a restart from it is right
--     RestartsRight before c F       the crash image F: its log is a history, a restart is right, and keeps what was acknowledged
--     RunIsRight               so it is of each crash image of a run, where no damage escapes
--     FlushedStays, AcknowledgedStays      what was flushed stands in each crash image of a run, and what was
--                              acknowledged is committed there, damage or not
--     CourseKeepsTheBase       the right base stays, whatever steps are taken
use Rattle.std.specs.Prelude.{◌≡◌, ℕ, ◌<◌, ◌≤◌, ◌⊎◌, List, [], ◌∷◌, ◌++◌, length, take, slice_get, Contains, Some}
use Rattle.dali_geometry.specs.Sizes.{Sizes}
use Rattle.dali_geometry.specs.Places.{formatted_image}
use Rattle.dali_record.specs.declared.records.Record.{Record}
use Rattle.dali_record.specs.declared.records.Record.TheVariants.{Format, Restarted}
use Rattle.dali_record.specs.Log.{committed}
use Rattle.dali_record.specs.Epochs.{cut, last_epoch}
use Rattle.dali_record.specs.Legal.{sizes_of}
use Rattle.dali_record.specs.Files.{Files}
use Rattle.dali_history.specs.Serial.{survivors}
use Rattle.dali_history.specs.Recovered.{base_of, recovered, AreHonest}
use Rattle.dali_history.specs.History.{IsHistory}
use Rattle.dali_history.specs.Acknowledged.{IsDeletedByChain}
use Rattle.dali_history.specs.Promise.{RestartIsRight}
use Rattle.dali_runs.specs.State.{CoreState, stable, log_after}
use Rattle.dali_runs.specs.Run.{Bases, base_at, log_in, RunsOn, IsRun, only}
use Rattle.dali_runs.specs.Crashes.{NoneEscapes, IsAcknowledged}
use Rattle.dali_record.specs.Spelling.{CanBeSpelled}
use Rattle.dali_runs.specs.Courses.{Step, Moment, IsCourse}

pub record HasRightBase (bases : Bases) (s : Sizes) (L : List Record) : Type 0 where
  pub base : base_at bases L ≡ base_of s L
  pub honest : AreHonest s (formatted_image s) (cut L).closed

abbrev pub FormatHasRightBase : Type 0
FormatHasRightBase =
    (bases : Bases) (s : Sizes)
    → base_at bases (Format s.index s.heap ∷ []) ≡ formatted_image s
    → HasRightBase bases s (Format s.index s.heap ∷ [])

abbrev pub RestartHasRightBase : Type 0
RestartHasRightBase =
    (bases : Bases) (L : List Record) (rs ds : List ℕ) → IsHistory L
    → base_at bases (L ++ Restarted rs ds ∷ []) ≡ recovered (sizes_of L) L
    → HasRightBase bases (sizes_of L) (L ++ Restarted rs ds ∷ [])

abbrev pub CrashIsHistory : Type 0
CrashIsHistory =
    (bases : Bases) (L : List Record) (c : CoreState) (n : ℕ) → RunsOn bases L c → HasRightBase bases c.system.sizes L
    → (last_epoch L).first ≤ n → n ≤ length L → NoneEscapes (last_epoch (take n L)) c
    → IsHistory (take n L)

abbrev pub CrashIsRight : Type 0
CrashIsRight =
    (bases : Bases) (L : List Record) (c : CoreState) (n : ℕ) → RunsOn bases L c → HasRightBase bases c.system.sizes L
    → (last_epoch L).first ≤ n → n ≤ length L → NoneEscapes (last_epoch (take n L)) c
    → RestartIsRight (take n L)

pub record RestartsRight (before : List Record) (c : CoreState) (F : Files) : Type 0 where
  pub history : IsHistory (log_in F)
  pub right : RestartIsRight (log_in F)
  pub keeps : (t : ℕ) → IsAcknowledged before c t
      → Contains (committed (log_in F)) t × (Contains (survivors (log_in F)) t ⊎ IsDeletedByChain (log_in F) t)

-- of each crash image by itself
abbrev pub RunIsRight : Type 0
RunIsRight =
    (bases : Bases) (before : List Record) (c : CoreState) (F : Files) → IsRun bases before (only F) c
    → HasRightBase bases c.system.sizes (log_after before c.system)
    → NoneEscapes (last_epoch (log_in F)) c
    → RestartsRight before c F

-- ---- with damage or without
abbrev pub FlushedStays : Type 0
FlushedStays =
    (bases : Bases) (before : List Record) (c : CoreState) (F : Files) (k : ℕ) (x : Record) → IsRun bases before (only F) c
    → k < stable c → slice_get (log_after before c.system) k ≡ Some x
    → slice_get (log_in F) k ≡ Some x

abbrev pub AcknowledgedStays : Type 0
AcknowledgedStays =
    (bases : Bases) (before : List Record) (c : CoreState) (F : Files) (t : ℕ) → IsRun bases before (only F) c
    → IsAcknowledged before c t
    → Contains (committed (log_in F)) t

-- ---- along steps
-- the right base stays, whatever steps are taken
abbrev pub CourseKeepsTheBase : Type 0
CourseKeepsTheBase =
    (bases : Bases) (m n : Moment) (xs : List Step) → HasRightBase bases m.core.system.sizes m.log → IsCourse m xs n
    → HasRightBase bases n.core.system.sizes n.log

abbrev pub FormatIsHistory : Type 0
FormatIsHistory = (s : Sizes) → CanBeSpelled (Format s.index s.heap) → IsHistory (Format s.index s.heap ∷ [])
