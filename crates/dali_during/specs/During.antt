-- What holds in a run without stray writes, between a format or a restart and the next one.
--     IsRightBase s base       the base keeps the index's invariant, nothing in it is dead, and each live cell has the length of a value
--     image_of c               the words of all regions, with the updates of open operations taken back
--     HasGap L c k             a running transaction has an undo on the key k, and its present call or its taking back isn't done
--     IndexedInRuns            at each moment the index's invariant holds, but for gaps of such keys
--     IsQuiet E                no answer is Odd, and no block finds a slot that isn't live, of another key or with an odd length
--     QuietInRuns              so it is of all records of the epoch, whatever becomes of their transactions
--     IsTakenBack s image base E t     of each key of the transaction's blocks in E, the image has the records from before its first block on it
--     TakenBackInRuns          a transaction that has taken all back leaves each key of its blocks the records from before its first block on it
--     TakenBackSince, TakenBackAtItsEnd      those that the regions had then, and once its Ended is logged
--     ShowsWhatIsExpected      where no transaction runs, the regions have the records that the log is expected to leave
--     UnpokedCourses           from a core that a format or a restart hands out, after any steps without a stray write, all of this holds,
--                              and each undo finds its slot as its transaction left it. No region is poked, and the epoch's base is right,
--                              which is what the laws above ask for. Memory is what the epoch's records write over what the start recovered.
--                              Where no audit failed before, nobody is deleted in any epoch
--     AllSurvive               where no audit failed in any epoch of a log, every commit in it survives
--     UnpokedCoreTraces        nor in any epoch of a crash image that came along these steps
--     UnpokedPointCourses, UnpokedTraces   so it is of a core with its store, with the steps of checkpoints among the others
--     RightBases               the base of a run behind epochs from which no damage escaped is such a base
use Rattle.std.specs.Prelude.{◌≡◌, ℕ, ◌<◌, ◌≤◌, ◌↔◌, Bool, true, false, ◌⊎◌, List, [], ◌∷◌, ◌++◌, map, take, drop, Some, None, slice_get, Contains, IsPermutation, length}
use Rattle.std.specs.List.{list_any, AllByRecursion}
use Rattle.dali_geometry.specs.Sizes.{Sizes}
use Rattle.dali_record.specs.declared.operations.Outcome.{Outcome}
use Rattle.dali_record.specs.declared.operations.Outcome.TheVariants.{NotLive, OtherKey, OddLength}
use Rattle.dali_record.specs.declared.records.Call.{Call}
use Rattle.dali_record.specs.declared.records.Answer.TheVariants.{Odd}
use Rattle.dali_record.specs.declared.records.Record.{Record}
use Rattle.dali_record.specs.declared.records.Record.TheVariants.{Done, Ended}
use Rattle.dali_record.specs.Log.{Touch, touch_at, committed}
use Rattle.dali_record.specs.Epochs.{epochs, last_epoch, failing}
use Rattle.dali_record.specs.Damage.{has}
use Rattle.dali_record.specs.Settled.{redo_all}
use Rattle.dali_access.specs.Index.Invariant.{IsImage, IsIndexed, IsTidy, IsIndexedBut, Gap, Matched}
use Rattle.dali_access.specs.Index.Records.{records}
use Rattle.dali_region.specs.State.{RegionState}
use Rattle.dali_record.specs.Legal.{Working, Unwinding, Active, txn_state, sizes_of, Rules, rules_state}
use Rattle.dali_record.specs.Files.{Files}
use Rattle.dali_history.specs.Serial.{Map, expected, survivors}
use Rattle.dali_history.specs.Recovered.{base_of, recovered}
use Rattle.dali_history.specs.History.{IsHistory}
use Rattle.dali_history.specs.Images.{HasRecords}
use Rattle.dali_history.specs.Kept.Kept.{uncommitted}
use Rattle.dali_history.specs.Undone.AsLeft.{FindAsLeft}
use Rattle.dali_runs.specs.State.{TxnRow, CoreState, VaultState, row_of}
use Rattle.dali_runs.specs.Run.{Bases, base_at, log_in, RunsOn, is_committed, VaultRun, no_image, only}
use Rattle.dali_runs.specs.Courses.{Step, Moment, CoreTraced, IsCourse}
use Rattle.dali_crash.specs.Unpoked.{pokes, store_pokes}
use Rattle.dali_crash.specs.CrashLogs.{IsUnpoked}
use Rattle.dali_crash.specs.Restarts.{HasRightBase}
use Rattle.dali_crash.specs.Checkpoints.{StoreStep, Point, Traced, moment_of, IsPointCourse}
use Rattle.dali_crash.specs.Traces.{Start, StartsAt, core_start, start_point, MayRun}

pub record IsRightBase (s : Sizes) (base : List (List ℕ)) : Type 0 where
  pub image : IsImage s base
  pub indexed : IsIndexed s base
  pub tidy : IsTidy s base

abbrev pub RightBases : Type 0
RightBases = (bases : Bases) (L : List Record) (c : CoreState) → RunsOn bases L c → HasRightBase bases c.system.sizes L → IsRightBase c.system.sizes (base_at bases L)

abbrev pub image_of : CoreState → List (List ℕ)
image_of c = map (λ g. g.back) c.regions

-- ---- the index's invariant
-- its taking back of answered calls has begun, or its present call, which has no answer yet, has an undo there
abbrev pub IsMidway : Working → ℕ → Type 0
IsMidway w k = (w.way ≡ Unwinding) ⊎ (has (map (λ u. u.key) (drop w.mark w.undos)) k ≡ true)

pub record HasGap (L : List Record) (c : CoreState) (k : ℕ) : Type 0 where
  pub txn : ℕ
  pub working : Working
  pub row : TxnRow
  pub state_is : txn_state c.system.sizes txn L ≡ Some (Active working)
  pub row_is : row_of c.system txn ≡ Some row
  pub runs : is_committed row.state ≡ false
  pub undos_are : row.undos ≡ working.undos
  pub on_key : has (map (λ u. u.key) working.undos) k ≡ true
  pub midway : IsMidway working k

pub record IsIndexedNow (L : List Record) (c : CoreState) : Type 0 where
  pub gaps : ℕ → Gap
  pub indexed : IsIndexedBut c.system.sizes (image_of c) gaps
  pub whose : (k : ℕ) → (gaps k ≡ Matched) ⊎ HasGap L c k

abbrev pub IndexedInRuns : Type 0
IndexedInRuns = (bases : Bases) (L : List Record) (c : CoreState) → RunsOn bases L c → IsUnpoked c → IsRightBase c.system.sizes (base_at bases L) → IsIndexedNow L c

-- ---- outcomes and answers
abbrev pub is_amiss : Outcome → Bool
is_amiss (NotLive n) = true
is_amiss (OtherKey n) = true
is_amiss (OddLength n) = true
is_amiss _ = false

pub record IsQuiet (E : List Record) : Type 0 where
  pub answers : (i t : ℕ) (c : Call) (p : ℕ) → slice_get E i ≡ Some (Done t c (Odd p)) → ⊥
  pub blocks : (i : ℕ) (a : Touch) → touch_at E i ≡ Some a → is_amiss a.block.outcome ≡ false

abbrev pub QuietInRuns : Type 0
QuietInRuns = (bases : Bases) (L : List Record) (c : CoreState) → RunsOn bases L c → IsUnpoked c → IsRightBase c.system.sizes (base_at bases L) → IsQuiet (last_epoch L).records

-- ---- what was taken back
-- the block at place i is the first one of the transaction t on its key
abbrev pub IsFirstOn : List Record → ℕ → ℕ → Touch → Type 0
IsFirstOn E t i a = (touch_at E i ≡ Some a) × (a.owner ≡ t) × ((j : ℕ) (b : Touch) → j < i → touch_at E j ≡ Some b → b.owner ≡ t → b.block.key ≡ a.block.key → ⊥)

abbrev pub IsTakenBack : Sizes → List (List ℕ) → List (List ℕ) → List Record → ℕ → Type 0
IsTakenBack s image base E t =
    (i : ℕ) (a : Touch) → IsFirstOn E t i a
    → (v : List ℕ) → Contains (records s image) (a.block.key, v) ↔ Contains (records s (redo_all base (take i E))) (a.block.key, v)

abbrev pub TakenBackInRuns : Type 0
TakenBackInRuns =
    (bases : Bases) (L : List Record) (c : CoreState) → RunsOn bases L c → IsUnpoked c → IsRightBase c.system.sizes (base_at bases L)
    → (t : ℕ) (row : TxnRow) → row_of c.system t ≡ Some row → is_committed row.state ≡ false → row.undos ≡ []
    → IsTakenBack c.system.sizes (image_of c) (base_at bases L) (last_epoch L).records t

-- so the regions have there what they had when that block was not yet logged
abbrev pub TakenBackSince : Type 0
TakenBackSince =
    (bases : Bases) (L M : List Record) (c old : CoreState) → RunsOn bases L c → IsUnpoked c → IsRightBase c.system.sizes (base_at bases L)
    → RunsOn bases M old → IsUnpoked old → old.system.sizes ≡ c.system.sizes → (last_epoch M).first ≡ (last_epoch L).first
    → (t : ℕ) (row : TxnRow) → row_of c.system t ≡ Some row → is_committed row.state ≡ false → row.undos ≡ []
    → (i : ℕ) (a : Touch) → IsFirstOn (last_epoch L).records t i a → (last_epoch M).records ≡ take i (last_epoch L).records
    → (v : List ℕ) → Contains (records c.system.sizes (image_of c)) (a.block.key, v) ↔ Contains (records c.system.sizes (image_of old)) (a.block.key, v)

-- and so it is once its Ended is logged
abbrev pub TakenBackAtItsEnd : Type 0
TakenBackAtItsEnd =
    (bases : Bases) (M : List Record) (t : ℕ) (c : CoreState) → RunsOn bases (M ++ Ended t ∷ []) c → IsUnpoked c → IsRightBase c.system.sizes (base_at bases (M ++ Ended t ∷ []))
    → has (committed (last_epoch M).records) t ≡ false
    → IsTakenBack c.system.sizes (image_of c) (base_at bases M) (last_epoch M).records t

-- ---- what stands where nothing runs
abbrev pub IsIdle : CoreState → Type 0
IsIdle c = ((t : ℕ) → row_of c.system t ≡ None) × ((r : ℕ) (g : RegionState) → slice_get c.regions r ≡ Some g → g.hold ≡ None)

abbrev pub ShowsWhatIsExpected : Type 0
ShowsWhatIsExpected =
    (bases : Bases) (L : List Record) (c : CoreState) → RunsOn bases L c → IsUnpoked c → HasRightBase bases c.system.sizes L
    → failing (last_epoch L) ≡ [] → IsIdle c
    → (m : Map) × (expected L ≡ Some m) × HasRecords c.system.sizes (map (λ g. g.words) c.regions) m

-- ---- from a format or a restart on
-- no audit of any epoch failed
abbrev pub NoneFailed : List Record → Type 0
NoneFailed L = AllByRecursion (λ e. failing e ≡ []) (epochs L)

-- a log by itself
abbrev pub AllSurvive : Type 0
AllSurvive = (L : List Record) → NoneFailed L → survivors L ≡ committed L

pub record CourseIsQuiet (L : List Record) (n : Moment) : Type 0 where
  pub unpoked : IsUnpoked n.core
  pub right_base : IsRightBase n.core.system.sizes (base_of n.core.system.sizes n.log)
  pub base_is : base_of n.core.system.sizes n.log ≡ recovered (sizes_of L) L
  pub image_is : image_of n.core ≡ redo_all (base_of n.core.system.sizes n.log) (last_epoch n.log).records
  pub indexed : IsIndexedNow n.log n.core
  pub quiet : IsQuiet (last_epoch n.log).records
  pub undos : (order : List ℕ) → IsPermutation order (uncommitted (last_epoch n.log).records) → FindAsLeft (base_of n.core.system.sizes n.log) (last_epoch n.log).records (image_of n.core) order
  pub taken_back : (t : ℕ) (row : TxnRow) → row_of n.core.system t ≡ Some row → is_committed row.state ≡ false → row.undos ≡ []
      → IsTakenBack n.core.system.sizes (image_of n.core) (base_of n.core.system.sizes n.log) (last_epoch n.log).records t
  pub ended : (M : List Record) (t : ℕ) → n.log ≡ M ++ Ended t ∷ [] → has (committed (last_epoch M).records) t ≡ false
      → IsTakenBack n.core.system.sizes (image_of n.core) (base_of n.core.system.sizes n.log) (last_epoch M).records t
  pub shows : IsIdle n.core → (m : Map) × (expected n.log ≡ Some m) × HasRecords n.core.system.sizes (map (λ g. g.words) n.core.regions) m
  pub none_failed : NoneFailed L → NoneFailed n.log
  pub none_deleted : NoneFailed L → survivors n.log ≡ committed n.log

-- of a crash image that came along these steps
pub record ImageIsQuiet (L : List Record) (F : Files) : Type 0 where
  pub none_failed : NoneFailed L → NoneFailed (log_in F)
  pub none_deleted : NoneFailed L → survivors (log_in F) ≡ committed (log_in F)

abbrev pub UnpokedCourses : Type 0
UnpokedCourses =
    (L : List Record) (g : Rules) (limit : ℕ) (v : VaultState)
    → IsHistory L → rules_state (sizes_of L) L ≡ Some g → (last_epoch L).records ≡ []
    → limit ≤ 268435456 → VaultRun no_image L (length L) v → v.flushed ≡ 0
    → (xs : List Step) (n : Moment) → list_any pokes xs ≡ false → IsCourse (core_start L g limit v) xs n
    → CourseIsQuiet L n

abbrev pub UnpokedCoreTraces : Type 0
UnpokedCoreTraces =
    (L : List Record) (g : Rules) (limit : ℕ) (v : VaultState) (D : Files)
    → IsHistory L → rules_state (sizes_of L) L ≡ Some g → (last_epoch L).records ≡ []
    → limit ≤ 268435456 → VaultRun (only D) L (length L) v → v.flushed ≡ 0
    → (xs : List Step) (n : Moment) (F : Files) → list_any pokes xs ≡ false → CoreTraced (core_start L g limit v) D xs n F
    → ImageIsQuiet L F

-- so it is with the store's image files and anchor, whatever steps of checkpoints are among the others
abbrev pub UnpokedPointCourses : Type 0
UnpokedPointCourses =
    (s : Start) → IsHistory s.log → rules_state (sizes_of s.log) s.log ≡ Some s.rules → (last_epoch s.log).records ≡ []
    → s.limit ≤ 268435456 → MayRun s.log s.vault
    → (xs : List StoreStep) (p : Point) → list_any store_pokes xs ≡ false → IsPointCourse (start_point s) xs p
    → CourseIsQuiet s.log (moment_of p)

abbrev pub UnpokedTraces : Type 0
UnpokedTraces =
    (s : Start) (D : Files) → IsHistory s.log → StartsAt s D
    → (xs : List StoreStep) (p : Point) (F : Files) → list_any store_pokes xs ≡ false → Traced (start_point s) D xs p F
    → ImageIsQuiet s.log F
