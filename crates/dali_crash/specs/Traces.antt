-- Crash images, one by one, along the steps of a core with its store. Nothing here ranges over what a crash may leave:
-- so the laws serve a store of which a crash leaves whatever stands in a relation to it. A store that tells nothing of
-- its reads, as one over real files, may leave anything, so laws that speak of what it leaves are vacuous
-- there: that real files behave like a store that tells is trusted.
--     TraceGoesOn              one step more
--     Start                    a log, and what is known of the store, where a core is made
--     MayRun L v               what is asked of the vault of a core that is made over the log L
--     IsRead D                 a record stands behind the image of D, where a gate is open
--     IsRestingImage L v D     the crash image D fits the log L, whose last epoch is empty
--     IsFreshImage L v D, FreshRests       it is that of a log that was just formatted or restarted: then it does
--     CrashRests               what a crash of a run left does, where the last epoch of its log is empty
--     FitsAtLast               which files that fit are such
--     StartsAt s D, start_point s          such a crash image, and the core that was just made over it
--     StartRuns, BareStartRuns it is a run with its store, and so it is where nothing is said of crashes
--     EveryTraceIsRight        from such a start on, each crash image that came along any steps fits and restarts right
--     EveryMomentIsRight       so does one inside a step, for the core before it
--     FewGates                 its anchor has at most 2^61 open gates more than its log has records
--     FlushedTraces, AcknowledgedTraces    what was flushed stands in it, and what was acknowledged is committed there
--     UnpokedTraceIsRight      without a stray write it restarts right, and the restart deletes nobody of its last epoch
--     core_start               a core alone that was just made
--     EveryCoreTraceIsRight, UnpokedCoreTraceIsRight   so it is of what came along any steps of it, from a crash image that has its log
use Rattle.std.specs.Prelude.{◌≡◌, ℕ, ◌+◌, ◌*◌, ◌≤◌, ◌<◌, ◌^◌, Bool, false, ◌⊎◌, List, [], ◌∷◌, ◌++◌, Some, sum_by, slice_get, length, Contains}
use Rattle.std.specs.List.{list_any}
use Rattle.dali_record.specs.declared.records.Record.{Record}
use Rattle.dali_record.specs.Log.{committed}
use Rattle.dali_record.specs.Epochs.{Epoch, last_epoch}
use Rattle.dali_record.specs.Spelling.{record_length}
use Rattle.dali_record.specs.Legal.{sizes_of, Rules, rules_state}
use Rattle.dali_record.specs.Files.{Files, batch_length, Fits}
use Rattle.dali_region.specs.declared.Side.{Side}
use Rattle.dali_history.specs.Recovered.{base_of, recovered}
use Rattle.dali_history.specs.History.{IsHistory}
use Rattle.dali_runs.specs.State.{VaultState, CoreState, stable}
use Rattle.dali_runs.specs.Run.{Bases, log_in, only, VaultRun, no_image}
use Rattle.dali_runs.specs.Loads.{new_core}
use Rattle.dali_runs.specs.Crashes.{NoneEscapes, IsAcknowledged}
use Rattle.dali_runs.specs.Passes.{no_audits}
use Rattle.dali_runs.specs.Courses.{Step, CoreTraced, Moment}
use Rattle.dali_runs.specs.Images.{Told}
use Rattle.dali_crash.specs.Restarts.{RestartsRight}
use Rattle.dali_crash.specs.Fitting.{FitsWhole}
use Rattle.dali_crash.specs.Starts.{IsFresh, IsLawful}
use Rattle.dali_crash.specs.Checkpoints.{Head, StoreStep, Came, Inside, IsPointStep, Point, Traced}
use Rattle.dali_crash.specs.StoreRuns.{CrashIsRightWith, LeavesRight, StoreRun, point_start}
use Rattle.dali_crash.specs.Unpoked.{store_pokes, DeletesNobody, pokes}

abbrev pub TraceGoesOn : Type 0
TraceGoesOn =
    (start p q : Point) (D E F : Files) (xs : List StoreStep) (x : StoreStep) → Traced start D xs p E
    → IsPointStep p x q → Came p x E F
    → Traced start D (xs ++ x ∷ []) q F

-- ---- where a core is made
-- a log whose last epoch has no record, and what is known of the store
pub record Start : Type 0 where
  pub log : List Record
  pub rules : Rules
  pub limit : ℕ
  pub vault : VaultState
  pub told : Told
  pub heads : Side → Head
  pub synced : Side → Bool

-- the vault runs and has flushed nothing yet, and its counts of faults are in order. The log's file is no longer than its records, with a frame for
-- each, and the anchor has at most 2^61 open gates more than there are records. So it may be moved, and files that were handed in may have more
-- gates than records
pub record MayRun (L : List Record) (v : VaultState) : Type 0 where
  pub runs : v.stopped ≡ false
  pub flushed : v.flushed ≡ 0
  pub faults : v.faults_then ≤ v.faults
  pub faults_fit : v.faults_then < 2 ^ 64
  pub short : v.end ≤ sum_by record_length L + 5 * length L
  pub moved : v.current ≤ length L + 2 ^ 61

-- A restart reads the lists of the last Restarted, since that stands behind the image; or no gate of the anchor is open, and then it reads all but
-- the Format. An image that stands behind the last Restarted, as no checkpoint and no restart leaves it, isn't such
abbrev pub IsRead : Files → Type 0
IsRead D = (D.gates ≡ 0) ⊎ (D.first < length (log_in D))

-- the image fits the log at its last epoch, which is empty; the vault knows where the log ends and which image is current
pub record IsRestingImage (L : List Record) (v : VaultState) (D : Files) : Type 0 where
  pub vault : MayRun L v
  pub none : (last_epoch L).records ≡ []
  pub files : FitsWhole (sizes_of L) (base_of (sizes_of L) L) L D (last_epoch L)
  pub end : v.end ≡ sum_by batch_length D.batches
  pub current : D.gates ≡ v.current
  -- behind the image stands the Restarted that ends the log, so its lists are read; or the log is that of a format
  pub read : IsRead D

-- right after a format or a restart
pub record IsFreshImage (L : List Record) (v : VaultState) (D : Files) : Type 0 where
  pub vault : MayRun L v
  pub none : (last_epoch L).records ≡ []
  pub files : IsFresh L D
  pub end : v.end ≡ sum_by batch_length D.batches
  pub current : D.gates ≡ v.current

abbrev pub FreshRests : Type 0
FreshRests = (L : List Record) (v : VaultState) (D : Files) → IsFreshImage L v D → IsRestingImage L v D

-- a crash image that restarts right may be a start as it is, where no record stands in its last epoch
abbrev pub CrashRests : Type 0
CrashRests =
    (before : List Record) (c : CoreState) (F : Files) (v : VaultState) → CrashIsRightWith before c F
    → (last_epoch (log_in F)).records ≡ [] → MayRun (log_in F) v
    → v.end ≡ sum_by batch_length F.batches → F.gates ≡ v.current → IsRead F
    → IsRestingImage (log_in F) v F

-- files that fit, and behind whose image no record stands or Restarted alone, fit at the last epoch
abbrev pub FitsAtLast : Type 0
FitsAtLast =
    (L : List Record) (base : List (List ℕ)) (D : Files) (e : Epoch) → IsLawful L → (last_epoch L).records ≡ []
    → Fits (sizes_of L) base L D e → length L ≤ D.first + 1
    → e ≡ last_epoch L

-- a legal log, honest or not: what speaks of records asks for a history besides
pub record StartsAt (s : Start) (D : Files) : Type 0 where
  pub lawful : IsLawful s.log
  pub rules : rules_state (sizes_of s.log) s.log ≡ Some s.rules
  pub fits : s.limit ≤ 268435456
  pub rests : IsRestingImage s.log s.vault D

-- a core over the recovered image
abbrev pub start_point : Start → Point
start_point s = point_start s.log s.rules s.limit s.vault s.told s.heads s.synced

abbrev pub bases_of : Start → Bases
bases_of s = λ k. recovered (sizes_of s.log) s.log

abbrev pub StartRuns : Type 0
StartRuns = (s : Start) (D : Files) → StartsAt s D → StoreRun (bases_of s) s.log (only D) (start_point s)

-- so it is where nothing is said of crashes
abbrev pub BareStartRuns : Type 0
BareStartRuns =
    (s : Start) → IsLawful s.log → rules_state (sizes_of s.log) s.log ≡ Some s.rules → (last_epoch s.log).records ≡ []
    → s.limit ≤ 268435456 → MayRun s.log s.vault
    → StoreRun (bases_of s) s.log no_image (start_point s)

abbrev pub EveryTraceIsRight : Type 0
EveryTraceIsRight =
    (s : Start) (D : Files) → StartsAt s D
    → (xs : List StoreStep) (p : Point) (F : Files) → Traced (start_point s) D xs p F
    → LeavesRight (bases_of s) s.log p.core F

abbrev pub EveryMomentIsRight : Type 0
EveryMomentIsRight =
    (s : Start) (D : Files) → StartsAt s D
    → (xs : List StoreStep) (p : Point) (E : Files) → Traced (start_point s) D xs p E
    → (x : StoreStep) (q : Point) (F : Files) → IsPointStep p x q → Inside p x E F
    → LeavesRight (bases_of s) s.log p.core F

-- no crash image has 2^61 open gates more than records: so it may be a start
abbrev pub FewGates : Type 0
FewGates =
    (s : Start) (D : Files) → StartsAt s D
    → (xs : List StoreStep) (p : Point) (F : Files) → Traced (start_point s) D xs p F
    → F.gates ≤ length (log_in F) + 2 ^ 61

-- ---- with damage or without
abbrev pub FlushedTraces : Type 0
FlushedTraces =
    (s : Start) (D : Files) → StartsAt s D
    → (xs : List StoreStep) (p : Point) (F : Files) → Traced (start_point s) D xs p F
    → (k : ℕ) (x : Record) → k < stable p.core → slice_get p.log k ≡ Some x
    → slice_get (log_in F) k ≡ Some x

abbrev pub AcknowledgedTraces : Type 0
AcknowledgedTraces =
    (s : Start) (D : Files) → StartsAt s D
    → (xs : List StoreStep) (p : Point) (F : Files) → Traced (start_point s) D xs p F
    → (t : ℕ) → IsAcknowledged s.log p.core t
    → Contains (committed (log_in F)) t

-- ---- without a stray write
abbrev pub UnpokedTraceIsRight : Type 0
UnpokedTraceIsRight =
    (s : Start) (D : Files) → IsHistory s.log → StartsAt s D
    → (xs : List StoreStep) (p : Point) (F : Files) → list_any store_pokes xs ≡ false
    → Traced (start_point s) D xs p F
    → CrashIsRightWith s.log p.core F × DeletesNobody F

-- ---- a core alone
abbrev pub core_start : List Record → Rules → ℕ → VaultState → Moment
core_start L g limit v = record { log = L; core = new_core (sizes_of L) (recovered (sizes_of L) L) g limit v; audits = no_audits }

abbrev pub EveryCoreTraceIsRight : Type 0
EveryCoreTraceIsRight =
    (L : List Record) (g : Rules) (limit : ℕ) (v : VaultState) (D : Files)
    → IsHistory L → rules_state (sizes_of L) L ≡ Some g → (last_epoch L).records ≡ []
    → limit ≤ 268435456 → VaultRun (only D) L (length L) v → v.flushed ≡ 0
    → (xs : List Step) (n : Moment) (F : Files) → CoreTraced (core_start L g limit v) D xs n F
    → NoneEscapes (last_epoch (log_in F)) n.core
    → RestartsRight L n.core F

abbrev pub UnpokedCoreTraceIsRight : Type 0
UnpokedCoreTraceIsRight =
    (L : List Record) (g : Rules) (limit : ℕ) (v : VaultState) (D : Files)
    → IsHistory L → rules_state (sizes_of L) L ≡ Some g → (last_epoch L).records ≡ []
    → limit ≤ 268435456 → VaultRun (only D) L (length L) v → v.flushed ≡ 0
    → (xs : List Step) (n : Moment) (F : Files) → list_any pokes xs ≡ false → CoreTraced (core_start L g limit v) D xs n F
    → RestartsRight L n.core F × DeletesNobody F
