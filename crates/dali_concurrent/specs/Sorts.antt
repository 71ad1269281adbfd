-- The kinds of entries that land, by what the value under the lock gives. T is what the note has seen, log_by o (plain T) the log by then.
--     is_of_system x           the step x is one of the system alone
--     SystemLands              such a step of the system in hand lands, in words of the system alone
--     block_in x, HasBlock L y x g M z     the step x logs this block, under the locks of its region and of the system
--     BothLand                 so does such a step of both in hand
--     RegionLands              and a step on the region in hand
--     after_all xs g, steps_on r xs    the region behind these steps;  they are on region r
--     MayMake y xs g           they may be made on the region g one after another, and none of them is a deed
--     RegionStepsLand          so does such a list of steps on the region in hand
--     FlushLands               a flush, of the vault in hand;  the frame is the one that was taken
--     FrameStays               the frame stays from where it is taken on, while nothing is taken or flushed
--     FaultLands               the store fails under the locks of vault and system
--     TellsHere o T e x                 the entry's deed tells the step, whatever the point is where this system stands
--     RecordIsRight, GrantIsRight, ClaimIsRight    what is right of a deed, by the system in hand
use Rattle.std.specs.Prelude.{◌≡◌, ℕ, ◌≤◌, Bool, true, false, List, [], ◌∷◌, ◌++◌, Option, Some, None, fold, length, map, slice_get}
use Rattle.dali_record.specs.declared.operations.Block.{Block}
use Rattle.dali_record.specs.declared.records.Record.{Record}
use Rattle.dali_record.specs.declared.records.Record.TheVariants.{Forward, Solo, Back}
use Rattle.dali_region.specs.State.{RegionState, touched}
use Rattle.dali_locks.specs.declared.mode.Mode.{Mode}
use Rattle.dali_locks.specs.declared.mode.LockAnswer.TheVariants.{Granted}
use Rattle.dali_locks.specs.Locks.{IsAnswer}
use Rattle.dali_att.specs.declared.state.State.TheVariants.{Live, Dead}
use Rattle.dali_runs.specs.State.{SystemState, VaultState, CoreState, state_of, stable, taken_to}
use Rattle.dali_runs.specs.Run.{Bases, HasRisen}
use Rattle.dali_runs.specs.Keeps.{HasRoom}
use Rattle.dali_runs.specs.Steps.{op_logged, back_logged, solo_logged, store_stopped}
use Rattle.dali_runs.specs.Flushes.{frame_of, longer, faulted}
use Rattle.dali_runs.specs.ImageSteps.{clears}
use Rattle.dali_runs.specs.Regions.{RegionStep, Poke, region_after, MayChange, IsAlone}
use Rattle.dali_runs.specs.Courses.{Step, Begins, Operates, TakesBack, Frees, Answers, Commits, AuditBegins, Locks, Refuses, Claims, Takes, OnRegion as StepsOn, Flushes, Faults, Stops}
use Rattle.dali_runs.specs.Parts.Systems.{MayLogHeld, Logs as LogsIt, IsSystemStep}
use Rattle.dali_crash.specs.Checkpoints.{StoreStep, Does, Point}
use Rattle.dali_transcripts.specs.Words.{StoreFailed}
use Rattle.dali_transcripts.specs.World.{Logs, GetsLock, Claims as ClaimsTxn, Meets}
use Rattle.dali_transcripts.specs.Telling.Deeds.{AreOfCore}
use Rattle.dali_transcripts.specs.Telling.Tells.{AreRightThen}
use Rattle.dali_concurrent.specs.Entries.{Entry, Did, Flushed}
use Rattle.dali_concurrent.specs.Rules.{Outset, log_by}
use Rattle.dali_concurrent.specs.Told.{Effect, OnRegion, OnSystem, OnVault, OnBoth, OnStop, effect_on, History, plain, core_told, world_told, is_tie}
use Rattle.dali_concurrent.specs.Landing.{said_in, who_in, Stands, Lands}

abbrev pub TellsHere : Outset → History → Entry → Step → Type 0
TellsHere o T e x = (q : Point) → q.core ≡ core_told o T → AreOfCore (world_told o T) (who_in e) q x (said_in e)

abbrev pub RightHere : Bases → Point → Outset → History → Entry → Effect → Type 0
RightHere bases p o T e f = (q : Point) → Stands bases p o T q → AreRightThen (world_told o T) (who_in e) (said_in e) (effect_on (core_told o T) f)

-- ---- the system alone
abbrev pub is_of_system : Step → Bool
is_of_system Begins = true
is_of_system (Answers t k a) = true
is_of_system (Commits t) = true
is_of_system AuditBegins = true
is_of_system (Locks t k m) = true
is_of_system (Refuses t k m h) = true
is_of_system (Claims t) = true
is_of_system Takes = true
is_of_system x = false

abbrev pub SystemLands : Type 0
SystemLands =
    (bases : Bases) (p : Point) (o : Outset) (T : History) (k : List ℕ) (e : Entry) (x : Step) (M : List Record) (y z : SystemState) → y ≡ (core_told o T).system
    → is_of_system x ≡ true → IsSystemStep (log_by o (plain T)) y x M z
    → TellsHere o T e x → RightHere bases p o T e (OnSystem z)
    → Lands bases p o T (k, (e, OnSystem z, Does x ∷ []))

-- ---- the system and a region
abbrev pub block_in : Step → Option Block
block_in (Operates t b) = Some b
block_in (TakesBack t b) = Some b
block_in (Frees t b) = Some b
block_in x = None

-- the step logs the block of the region that is in hand
abbrev pub HasBlock : List Record → SystemState → Step → RegionState → List Record → SystemState → Type 0
HasBlock L y (Operates t b) g M z = HasRoom y (Forward t b) × MayLogHeld L y (Forward t b) t b g × LogsIt L (Forward t b) (op_logged y t b) M z
HasBlock L y (TakesBack t b) g M z = MayLogHeld L y (Back t b) t b g × LogsIt L (Back t b) (back_logged y t b) M z
HasBlock L y (Frees t b) g M z = MayLogHeld L y (Solo y.next t b) t b g × LogsIt L (Solo y.next t b) (solo_logged y t b) M z
HasBlock L y x g M z = ⊥

abbrev pub BothLand : Type 0
BothLand =
    (bases : Bases) (p : Point) (o : Outset) (T : History) (k : List ℕ) (e : Entry) (x : Step) (b : Block) (M : List Record) (y z : SystemState) (g : RegionState)
    → y ≡ (core_told o T).system → slice_get (core_told o T).regions b.region ≡ Some g
    → block_in x ≡ Some b → HasBlock (log_by o (plain T)) y x g M z
    → TellsHere o T e x → RightHere bases p o T e (OnBoth b.region (touched g) z)
    → Lands bases p o T (k, (e, OnBoth b.region (touched g) z, Does x ∷ []))

-- ---- a region alone
abbrev pub RegionLands : Type 0
RegionLands =
    (bases : Bases) (p : Point) (o : Outset) (T : History) (k : List ℕ) (e : Entry) (r : ℕ) (x : RegionStep) (g : RegionState) → slice_get (core_told o T).regions r ≡ Some g
    → clears x ≡ false → MayChange x g → IsAlone (core_told o T).system x g
    → TellsHere o T e (StepsOn r x) → RightHere bases p o T e (OnRegion r (region_after x g))
    → Lands bases p o T (k, (e, OnRegion r (region_after x g), Does (StepsOn r x) ∷ []))

-- a list of steps, of which no deed tells
abbrev pub is_poke : RegionStep → Bool
is_poke (Poke word mask) = true
is_poke x = false

abbrev pub after_one : RegionState → RegionStep → RegionState
after_one g x = region_after x g

abbrev pub after_all : List RegionStep → RegionState → RegionState
after_all xs g = fold after_one g xs

abbrev pub steps_on : ℕ → List RegionStep → List StoreStep
steps_on r xs = map (λ (x : RegionStep). Does (StepsOn r x)) xs

abbrev pub MayMake : SystemState → List RegionStep → RegionState → Type 0
MayMake y [] g = Unit {0}
MayMake y (x ∷ xs) g = (clears x ≡ false) × (is_poke x ≡ false) × MayChange x g × IsAlone y x g × MayMake y xs (region_after x g)

abbrev pub RegionStepsLand : Type 0
RegionStepsLand =
    (bases : Bases) (p : Point) (o : Outset) (T : History) (k : List ℕ) (e : Entry) (r : ℕ) (xs : List RegionStep) (g : RegionState) → is_tie e ≡ true
    → slice_get (core_told o T).regions r ≡ Some g → MayMake (core_told o T).system xs g
    → Lands bases p o T (k, (e, OnRegion r (after_all xs g), steps_on r xs))

-- ---- the vault
abbrev pub FlushLands : Type 0
FlushLands =
    (bases : Bases) (p : Point) (o : Outset) (T : History) (k : List ℕ) (v : VaultState) (frame : List Record) → v ≡ (core_told o T).vault
    → v.stopped ≡ false → frame ≡ frame_of (log_by o (plain T)) (core_told o T)
    → Lands bases p o T (k, (Flushed, OnVault (longer v frame), Does Flushes ∷ []))

-- from the core c on to d
abbrev pub FrameStays : Type 0
FrameStays =
    (L more : List Record) (c d : CoreState) → taken_to c.system ≤ length L → taken_to d.system ≡ taken_to c.system → stable d ≡ stable c
    → frame_of (L ++ more) d ≡ frame_of L c

-- ---- the vault and the system
abbrev pub FaultLands : Type 0
FaultLands =
    (bases : Bases) (p : Point) (o : Outset) (T : History) (k : List ℕ) (n c : ℕ) (v : VaultState) (y : SystemState) → v ≡ (core_told o T).vault → y ≡ (core_told o T).system
    → v.stopped ≡ false → HasRisen v.faults n
    → Lands bases p o T (k, (Did (Meets StoreFailed) c, OnStop (faulted v n) (store_stopped y), Does (Faults n) ∷ Does Stops ∷ []))

-- ---- what is right
abbrev pub RecordIsRight : Type 0
RecordIsRight =
    (bases : Bases) (p : Point) (o : Outset) (T : History) (q : Point) (c : ℕ) (R : Record) (d : CoreState) → Stands bases p o T q
    → (core_told o T).system.stop ≡ None → AreRightThen (world_told o T) c (Logs R ∷ []) d

abbrev pub GrantIsRight : Type 0
GrantIsRight =
    (bases : Bases) (p : Point) (o : Outset) (T : History) (q : Point) (c t k : ℕ) (m : Mode) (d : CoreState) → Stands bases p o T q
    → (core_told o T).system.stop ≡ None → state_of (core_told o T).system t ≡ Some Live → IsAnswer (core_told o T).system.locks t k m Granted
    → AreRightThen (world_told o T) c (GetsLock t k m ∷ []) d

abbrev pub ClaimIsRight : Type 0
ClaimIsRight =
    (bases : Bases) (p : Point) (o : Outset) (T : History) (q : Point) (c t : ℕ) (latched : Option ℕ) (d : CoreState) → Stands bases p o T q
    → state_of (core_told o T).system t ≡ Some (Dead latched) → AreRightThen (world_told o T) c (ClaimsTxn t ∷ []) d
