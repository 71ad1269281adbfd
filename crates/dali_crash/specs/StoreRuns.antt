-- Runs with their store, from a format or a restart on.
--     IsCopied base e r g k ws what is known of a region's place in an image file, which reads the words ws
--     IsKept L v leave h       what a checkpoint kept belongs to the records before
--     AreWritten regions copies told   where a place was written since the load, it reads 64 words of 64 bits; and where a flag is clear, it was written
--     StoreRun bases before leave p    the core is a run, each crash image fits the log that it has, and these hold
--     StoreStepKeeps, StoreCourseKeeps     each step, and each list of steps, keeps it, of each crash image by itself
--     BareStoreCourseKeeps     so it is where nothing is said of crashes
--     CurrentIsSmall           the number of the current image is below 2^62: so the anchor may be moved once more
--     TurnEnds, TurnLeaves     what is true once the anchor moved, of the point and of the crash image
--     point_start L g limit v ..           a core that was just made, with its store
--     ImageIsRight K F         files of the log K fit it whole, and their image gives what a restart gives
--     CrashIsRightWith before c F      that of a crash image, and a restart of its log is right
--     LeavesRight bases before c F     the crash image F fits its log but for the missed regions; and where the start was a history and no damage
--                              escapes, a restart from its image and the rest of its log is right
--     FlagTells p              the flag is set where a checkpoint keeps something
--     FlagStays, CourseFlagTells           so it is after each step, and after each list of steps
--     FlagGoes x was is        what the step x finds of the flag, and what it leaves
--     FlagChanges              so it is at each step
--     LeavesImages p q         the image files are left
--     IdleLeavesImages         where none keeps anything, a step leaves the image files and the current number, and all of a crash
--                              image but its batches
--     KeptStays                what a checkpoint kept stays until it is given up or its anchor moves
--     IsLeft p q side          the file of this side was synced, and reads as it did
--     SyncedStays              so it is after each step but a sync that leaves the file synced
use Rattle.std.specs.Prelude.{◌≡◌, ℕ, ◌+◌, ◌*◌, ◌^◌, ◌<◌, ◌≤◌, Bool, true, false, ◌⊎◌, List, Some, None, Option, is_some, length, take, sum_by, slice_get, flat_map}
use Rattle.dali_record.specs.declared.records.Record.{Record}
use Rattle.dali_words.specs.Words.{AreWords}
use Rattle.dali_record.specs.Epochs.{Epoch, last_epoch, next_number}
use Rattle.dali_record.specs.Settled.{settled_before}
use Rattle.dali_record.specs.Spelling.{record_length}
use Rattle.dali_record.specs.Legal.{sizes_of, Rules}
use Rattle.dali_record.specs.Files.{Files, batch_length, is_restarted_first, table_before, next_after}
use Rattle.dali_region.specs.declared.Side.{Side}
use Rattle.dali_region.specs.State.{RegionState}
use Rattle.dali_region.specs.Answers.{is_dirty}
use Rattle.dali_history.specs.Recovered.{base_of, recovered}
use Rattle.dali_history.specs.History.{IsHistory}
use Rattle.dali_runs.specs.State.{VaultState, CoreState, stable}
use Rattle.dali_runs.specs.Run.{Bases, log_in, only, no_image}
use Rattle.dali_runs.specs.Loads.{new_core}
use Rattle.dali_runs.specs.Crashes.{NoneEscapes}
use Rattle.dali_runs.specs.Passes.{no_audits}
use Rattle.dali_runs.specs.Courses.{RunsAt}
use Rattle.dali_runs.specs.Images.{Told, FitsBut, is_missed, ImageRun}
use Rattle.dali_crash.specs.Restarts.{RestartsRight}
use Rattle.dali_crash.specs.Fitting.{FitsWhole, recover_from}
use Rattle.dali_crash.specs.Checkpoints.{Head, Copy, StoreStep, Starts, Syncs, Turns, Finishes, Came, IsPointCourse, IsPointStep, Point, Traced, moment_of}

-- ---- what is known of a place in an image file
-- it reads the words that the blocks below number n leave
pub record IsSettledAt (base : List (List ℕ)) (e : Epoch) (r n : ℕ) (ws : List ℕ) : Type 0 where
  pub to : n ≤ next_number e
  pub words : ws ≡ settled_before base e r n

-- or a stray write came to the region, which is missed if an audit passed it
pub record IsStray (g : RegionState) (passed : Bool) : Type 0 where
  pub poked : g.poked ≡ true
  pub missed : passed ≡ true → g.missed ≡ true

abbrev pub IsCopied : List (List ℕ) → Epoch → ℕ → RegionState → Copy → List ℕ → Type 0
IsCopied base e r g k ws = IsSettledAt base e r k.at ws ⊎ IsStray g k.passed

-- ---- what a checkpoint kept
-- the place is between two batches of the files, behind just n records
abbrev pub IsPlace : Files → ℕ → ℕ → Type 0
IsPlace F n place =
    (k : ℕ) × (flat_map (λ b. b) (take k F.batches) ≡ take n (log_in F))
    × (place ≡ sum_by batch_length (take k F.batches))
    × ((j : ℕ) (b : List Record) → k ≤ j → slice_get F.batches j ≡ Some b → is_restarted_first b ≡ true)

pub record IsKept (L : List Record) (v : VaultState) (leave : Files → Type 0) (h : Head) : Type 0 where
  pub number : h.number ≡ v.current + 1
  pub from : (last_epoch L).first ≤ h.first
  pub to : h.first ≤ length L
  pub weight : h.weight ≡ sum_by record_length (take h.first L)
  pub next : h.next ≡ next_after (take h.first L)
  pub table : h.table ≡ table_before (last_epoch L) h.first
  -- hardly more moves of the anchor than records, and a place no farther than the records before it, with a frame for each
  pub moved : v.current ≤ h.first + 2 ^ 61
  pub short : h.place ≤ h.weight + 5 * h.first
  pub held : (F : Files) → leave F → h.first ≤ length (log_in F)
  pub place : (F : Files) → leave F → IsPlace F h.first h.place

-- ---- what is read where a place was written since the load
pub record AreWritten (regions : List RegionState) (copies : Side → ℕ → Option Copy) (told : Told) : Type 0 where
  pub copied : (side : Side) (r : ℕ) (k : Copy) → copies side r ≡ Some k → AreWords (told side r)
  pub clean : (side : Side) (r : ℕ) (g : RegionState) → slice_get regions r ≡ Some g → is_dirty g side ≡ false → is_some (copies side r) ≡ true

-- ---- a run with its store
pub record StoreRun (bases : Bases) (before : List Record) (leave : Files → Type 0) (p : Point) : Type 0 where
  pub run : RunsAt bases before leave (moment_of p)
  pub images : ImageRun bases leave p.told p.core
  pub anchor : p.core.vault.stopped ≡ false → (F : Files) → leave F → F.gates ≡ p.core.vault.current
  pub kept : (h : Head) → p.begun ≡ Some h → IsKept p.log p.core.vault leave h
  pub copied : (side : Side) (r : ℕ) (k : Copy) (g : RegionState) → p.copies side r ≡ Some k
      → slice_get p.core.regions r ≡ Some g
      → IsCopied (bases (last_epoch p.log).first) (last_epoch p.log) r g k (p.told side r)
  pub written : AreWritten p.core.regions p.copies p.told
  -- files that were handed in may have more open gates than records; each move of the anchor since then stands behind records of its own
  pub moved : p.core.vault.current ≤ stable p.core + 2 ^ 61
  pub few : (F : Files) → leave F → F.gates ≤ length (log_in F) + 2 ^ 61

abbrev pub StoreStepKeeps : Type 0
StoreStepKeeps =
    (bases : Bases) (before : List Record) (p q : Point) (x : StoreStep) (D F : Files) → StoreRun bases before (only D) p
    → IsPointStep p x q → Came p x D F
    → StoreRun bases before (only F) q

abbrev pub StoreCourseKeeps : Type 0
StoreCourseKeeps =
    (bases : Bases) (before : List Record) (p q : Point) (xs : List StoreStep) (D F : Files) → StoreRun bases before (only D) p
    → Traced p D xs q F
    → StoreRun bases before (only F) q

-- so it is where nothing is said of crashes
abbrev pub BareStoreCourseKeeps : Type 0
BareStoreCourseKeeps =
    (bases : Bases) (before : List Record) (p q : Point) (xs : List StoreStep) → StoreRun bases before no_image p
    → IsPointCourse p xs q
    → StoreRun bases before no_image q

-- ---- how often the anchor was moved
abbrev pub CurrentIsSmall : Type 0
CurrentIsSmall = (bases : Bases) (before : List Record) (p : Point) → StoreRun bases before no_image p → p.core.vault.current < 2 ^ 62

-- ---- a checkpoint that ended
-- the next number is the current one
pub record IsEnded (p q : Point) : Type 0 where
  pub head : Head
  pub begun : p.begun ≡ Some head
  pub number : head.number ≡ p.core.vault.current + 1
  pub current : q.core.vault.current ≡ p.core.vault.current + 1

abbrev pub TurnEnds : Type 0
TurnEnds = (bases : Bases) (before : List Record) (p q : Point) → StoreRun bases before no_image p → IsPointStep p Turns q → IsEnded p q

-- so it is in the crash image, and its image stands at the record where the checkpoint began
abbrev pub TurnLeaves : Type 0
TurnLeaves =
    (bases : Bases) (before : List Record) (p q : Point) (D F : Files) (h : Head) → StoreRun bases before (only D) p
    → IsPointStep p Turns q → Came p Turns D F → p.begun ≡ Some h
    → (F.gates ≡ q.core.vault.current) × (F.first ≡ h.first)

-- ---- where a core is made
-- nothing is known of the image files, and no checkpoint is under way
abbrev pub point_start : List Record → Rules → ℕ → VaultState → Told → (Side → Head) → (Side → Bool) → Point
point_start L g limit v told heads synced = record {
  log = L;
  core = new_core (sizes_of L) (recovered (sizes_of L) L) g limit v;
  audits = no_audits;
  told = told;
  heads = heads;
  synced = synced;
  begun = None;
  copies = λ side r. None;
}

-- ---- what a crash leaves
-- the current image, with the log from its record number on, gives the image of a restart
pub record ImageIsRight (K : List Record) (F : Files) : Type 0 where
  pub fits : FitsWhole (sizes_of K) (base_of (sizes_of K) K) K F (last_epoch K)
  pub gives : recover_from (sizes_of K) F.image F.first (last_epoch K) ≡ recovered (sizes_of K) K

pub record CrashIsRightWith (before : List Record) (c : CoreState) (F : Files) : Type 0 where
  pub restarts : RestartsRight before c F
  pub image : ImageIsRight (log_in F) F

pub record LeavesRight (bases : Bases) (before : List Record) (c : CoreState) (F : Files) : Type 0 where
  pub fits : FitsBut c.system.sizes bases (λ r. is_missed (slice_get c.regions r)) (log_in F) F (last_epoch (log_in F))
  pub right : IsHistory before → NoneEscapes (last_epoch (log_in F)) c → CrashIsRightWith before c F

-- ---- the flag of a checkpoint
abbrev pub FlagTells : Point → Type 0
FlagTells p = is_some p.begun ≡ true → p.core.system.checking ≡ true

abbrev pub FlagStays : Type 0
FlagStays = (p q : Point) (x : StoreStep) → FlagTells p → IsPointStep p x q → FlagTells q

abbrev pub CourseFlagTells : Type 0
CourseFlagTells =
    (L : List Record) (g : Rules) (limit : ℕ) (v : VaultState)
    (told : Told) (heads : Side → Head) (synced : Side → Bool) (xs : List StoreStep) (q : Point)
    → IsPointCourse (point_start L g limit v told heads synced) xs q
    → FlagTells q

-- a start finds it clear and sets it, an end finds it set and clears it, and no other step changes it
abbrev pub FlagGoes : StoreStep → Bool → Bool → Type 0
FlagGoes Starts was is = (was ≡ false) × (is ≡ true)
FlagGoes Finishes was is = (was ≡ true) × (is ≡ false)
FlagGoes _ was is = is ≡ was

abbrev pub FlagChanges : Type 0
FlagChanges = (p q : Point) (x : StoreStep) → IsPointStep p x q → FlagGoes x p.core.system.checking q.core.system.checking

-- what the image files read, their heads, and which of them is synced stays, and the number of the current one; and no place is brought up
-- to date
pub record LeavesImages (p q : Point) : Type 0 where
  pub told : q.told ≡ p.told
  pub heads : q.heads ≡ p.heads
  pub synced : q.synced ≡ p.synced
  pub current : q.core.vault.current ≡ p.core.vault.current
  pub copies : (side : Side) (r : ℕ) (k : Copy) → q.copies side r ≡ Some k → (j : Copy) × (p.copies side r ≡ Some j) × (j.at ≡ k.at)

abbrev pub IdleLeavesImages : Type 0
IdleLeavesImages =
    (p q : Point) (x : StoreStep) → p.begun ≡ None → IsPointStep p x q
    → LeavesImages p q × ((D F : Files) → Came p x D F → F ≡ record D { batches = F.batches })

-- what a checkpoint kept stays, until nothing is kept any more
abbrev pub KeptStays : Type 0
KeptStays = (p q : Point) (x : StoreStep) (h : Head) → p.begun ≡ Some h → IsPointStep p x q → (q.begun ≡ Some h) ⊎ (q.begun ≡ None)

-- the file was synced, and reads as it did
pub record IsLeft (p q : Point) (side : Side) : Type 0 where
  pub synced : p.synced side ≡ true
  pub told : (r : ℕ) → q.told side r ≡ p.told side r
  pub head : q.heads side ≡ p.heads side

abbrev pub is_sync : StoreStep → Bool
is_sync Syncs = true
is_sync _ = false

abbrev pub SyncedStays : Type 0
SyncedStays = (p q : Point) (x : StoreStep) (side : Side) → is_sync x ≡ false → IsPointStep p x q → q.synced side ≡ true → IsLeft p q side
