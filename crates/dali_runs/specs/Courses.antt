-- Every kind of step, and lists of them.
--     Step                     the kinds of step
--     IsStep L c x M d         the step x leads from the log L and the core c to the log M and the core d
--     Moment                   the log and the core, with what each audit has passed
--     CameBy L c x D F         the crash image F, behind the step x, came from the crash image D before it
--     AuditsBy old new L c x   what each audit has passed after it; an audit ends by what it passed
--     IsCourse m steps n       these steps, one after another, lead from the moment m to the moment n
--     CoreTraced m D steps n F     so they do, and the crash image F came along them from D
--     CheckpointsTurn          a checkpoint's start sets the flag where it is clear, its end clears it where it is set
--     RunsAt bases before leave m  the core is a run at this moment, of which a crash leaves these files
--     StepKeeps, CourseKeeps   each step keeps a run, of each crash image by itself, and so does each list of steps
--     TakenAllIsFlushed        a frame that is flushed as soon as it is taken has all records
--     AuditTells m b found     an audit that ends has passed each region just once, and names those whose answer wasn't 0; it is clean where
--                              there is none; a stray write came to each of these, and each other one is certified
--     AuditEndTells            so it is of each audit that ends
--     LoadRunsAt               a core that was just made is a run
--     BareCourseKeeps, BareLoadRuns    so it is where nothing is said of crashes
use Rattle.std.specs.Prelude.{◌≡◌, ◌==◌, ◌↔◌, ℕ, ◌+◌, ◌<◌, ◌≤◌, Bool, true, false, not, List, [], ◌∷◌, ◌++◌, Option, Some, None, IsSome, length, slice_get, ◌⊎◌}
use Rattle.std.specs.Option.{option_map_or}
use Rattle.dali_words.specs.Words.{AllAreWords}
use Rattle.dali_geometry.specs.Sizes.{Sizes}
use Rattle.dali_geometry.specs.Places.{regions}
use Rattle.dali_record.specs.declared.operations.Block.{Block}
use Rattle.dali_record.specs.declared.records.Call.{Call}
use Rattle.dali_record.specs.declared.records.Answer.{Answer}
use Rattle.dali_record.specs.declared.records.Record.{Record}
use Rattle.dali_record.specs.declared.records.Record.TheVariants.{Begin, Forward, Done, Commit, Ended, Solo, AuditBegin, Back}
use Rattle.dali_record.specs.Damage.{has}
use Rattle.dali_record.specs.Spelling.{CanBeSpelled}
use Rattle.dali_record.specs.Legal.{Rules}
use Rattle.dali_record.specs.Files.{Files}
use Rattle.dali_region.specs.State.{RegionState, checked, taken_back}
use Rattle.dali_locks.specs.declared.mode.Mode.{Mode}
use Rattle.dali_locks.specs.declared.mode.LockAnswer.TheVariants.{Granted, Busy}
use Rattle.dali_locks.specs.Locks.{IsAnswer}
use Rattle.dali_att.specs.declared.state.State.TheVariants.{Dead, Cleaning}
use Rattle.dali_runs.specs.State.{CoreState, row_of, stable, log_after, VaultState}
use Rattle.dali_runs.specs.Run.{Bases, HasRisen, IsRun, base_at, VaultRun, only, no_image}
use Rattle.dali_runs.specs.Steps.{begun, op_logged, back_logged, solo_logged, done_logged, commit_logged, ended_logged, audit_begun, audit_ended, audit_record, granted, refused, in_state, store_stopped, in_checkpoint, taken}
use Rattle.dali_runs.specs.Regions.{RegionStep, region_after, MayChange, IsAlone}
use Rattle.dali_runs.specs.Keeps.{with_system, with_region, with_touched, HasRoom, MayAdd, MayLogBlock, IsFree, MayDie, died, MayClaim, MayGiveBack, MayRecover}
use Rattle.dali_runs.specs.Audits.{MayLogEnd, MayEndAudit}
use Rattle.dali_runs.specs.Passes.{Pass, Audits, no_audits, audits_with, has_found, MayPass, IsVerdict, AuditsRun}
use Rattle.dali_runs.specs.Loads.{IsAtRest, new_core}
use Rattle.dali_runs.specs.Flushes.{frame_of, with_frame, with_vault, longer, faulted, read_failed}

pub data Step : Type 0 where
  Begins : Step
  Operates : (txn : ℕ) → (block : Block) → Step
  TakesBack : (txn : ℕ) → (block : Block) → Step
  Frees : (parent : ℕ) → (block : Block) → Step
  Answers : (txn : ℕ) → (call : Call) → (answer : Answer) → Step
  Commits : (txn : ℕ) → Step
  Ends : (txn : ℕ) → Step
  AuditBegins : Step
  AuditEnds : (begin : ℕ) → (found : List ℕ) → Step
  Locks : (txn key : ℕ) → (mode : Mode) → Step
  Refuses : (txn key : ℕ) → (mode : Mode) → (holder : ℕ) → Step
  OnRegion : (region : ℕ) → (step : RegionStep) → Step
  -- the audit that began at this record passes the region
  Passes : (begin region : ℕ) → Step
  -- a client dies, in an operation on this region or in none; its transaction is claimed; the claim is given back; and who has claimed
  -- it takes back the operation that the client left on the region
  Dies : (txn : ℕ) → (latched : Option ℕ) → Step
  Claims : (txn : ℕ) → Step
  GivesBack : (txn : ℕ) → (latched : Option ℕ) → Step
  Recovers : (region : ℕ) → Step
  Stops : Step
  -- a checkpoint starts where none is under way, and ends where one is
  Checkpoints : (under_way : Bool) → Step
  -- a frame is taken, under the locks of system and vault, and then flushed, under the vault's alone; where no memory is left to take it,
  -- both steps are made under both locks
  Takes : Step
  Flushes : Step
  -- a flush meets a fault
  Faults : (faults : ℕ) → Step
  -- a read of the log fails: the store's count of faults rises, and nothing else changes; so it may also once the vault has stopped
  ReadFails : (faults : ℕ) → Step

abbrev pub Adds : List Record → Record → CoreState → List Record → CoreState → Type 0
Adds L x e M d = (M ≡ L ++ x ∷ []) × (d ≡ e)

abbrev pub AddsNone : List Record → CoreState → List Record → CoreState → Type 0
AddsNone L e M d = (M ≡ L) × (d ≡ e)

abbrev pub IsStep : List Record → CoreState → Step → List Record → CoreState → Type 0
IsStep L c Begins M d = HasRoom c.system (Begin c.system.next) × Adds L (Begin c.system.next) (with_system c (begun c.system)) M d
IsStep L c (Operates t b) M d = (g : RegionState) × HasRoom c.system (Forward t b) × MayLogBlock L c (Forward t b) t b g × Adds L (Forward t b) (with_touched c (op_logged c.system t b) b.region g) M d
IsStep L c (TakesBack t b) M d = (g : RegionState) × MayLogBlock L c (Back t b) t b g × Adds L (Back t b) (with_touched c (back_logged c.system t b) b.region g) M d
IsStep L c (Frees p b) M d = (g : RegionState) × MayLogBlock L c (Solo c.system.next p b) p b g × Adds L (Solo c.system.next p b) (with_touched c (solo_logged c.system p b) b.region g) M d
IsStep L c (Answers t k a) M d = HasRoom c.system (Done t k a) × CanBeSpelled (Done t k a) × MayAdd L c.system t (Done t k a) × Adds L (Done t k a) (with_system c (done_logged c.system t k a)) M d
IsStep L c (Commits t) M d = (c.system.stop ≡ None) × MayAdd L c.system t (Commit t) × Adds L (Commit t) (with_system c (commit_logged c.system t)) M d
IsStep L c (Ends t) M d = (c.system.stop ≡ None) × (MayAdd L c.system t (Ended t) × IsFree c t) × Adds L (Ended t) (with_system c (ended_logged c.system t)) M d
IsStep L c AuditBegins M d = (c.system.stop ≡ None) × (c.system.end + 1 ≤ c.system.limit + 1048576) × Adds L AuditBegin (with_system c (audit_begun c.system)) M d
IsStep L c (AuditEnds b found) M d = MayLogEnd L c b found × Adds L (audit_record b found) (with_system c (audit_ended c.system b found)) M d
IsStep L c (Locks t k m) M d = IsSome (row_of c.system t) × IsAnswer c.system.locks t k m Granted × AddsNone L (with_system c (granted c.system t k m)) M d
IsStep L c (Refuses t k m h) M d = IsSome (row_of c.system t) × IsAnswer c.system.locks t k m (Busy h) × AddsNone L (with_system c (refused c.system t k m h)) M d
IsStep L c (OnRegion r x) M d = (g : RegionState) × (slice_get c.regions r ≡ Some g) × (MayChange x g × IsAlone c.system x g) × AddsNone L (with_region c r (region_after x g)) M d
IsStep L c (Passes b r) M d = (g : RegionState) × (slice_get c.regions r ≡ Some g) × AddsNone L (with_region c r (checked g)) M d
IsStep L c (Dies t o) M d = MayDie c t o × AddsNone L (died c t o) M d
IsStep L c (Claims t) M d = (o : Option ℕ) × MayClaim c t o × AddsNone L (with_system c (in_state c.system t (Cleaning o))) M d
IsStep L c (GivesBack t o) M d = MayGiveBack c t o × AddsNone L (with_system c (in_state c.system t (Dead o))) M d
IsStep L c (Recovers r) M d = (g : RegionState) × (slice_get c.regions r ≡ Some g) × MayRecover c g × AddsNone L (with_region c r (taken_back g)) M d
IsStep L c Stops M d = (c.vault.stopped ≡ true) × AddsNone L (with_system c (store_stopped c.system)) M d
IsStep L c (Checkpoints b) M d = (c.system.checking ≡ not b) × AddsNone L (with_system c (in_checkpoint c.system b)) M d
IsStep L c Takes M d = AddsNone L (with_system c (taken c.system)) M d
IsStep L c Flushes M d = (c.vault.stopped ≡ false) × AddsNone L (with_vault c (longer c.vault (frame_of L c))) M d
IsStep L c (Faults n) M d = (c.vault.stopped ≡ false) × HasRisen c.vault.faults n × AddsNone L (with_vault c (faulted c.vault n)) M d
IsStep L c (ReadFails n) M d = HasRisen c.vault.faults n × AddsNone L (with_vault c (read_failed c.vault n)) M d

abbrev pub CheckpointsTurn : Type 0
CheckpointsTurn = (L M : List Record) (c d : CoreState) (b : Bool) → IsStep L c (Checkpoints b) M d → (c.system.checking ≡ not b) × (d.system.checking ≡ b)

-- ---- with what audits have passed
pub record Moment : Type 0 where
  pub log : List Record
  pub core : CoreState
  pub audits : Audits

-- a flush adds its batch, and a fault is one in a flush
abbrev pub CameBy : List Record → CoreState → Step → Files → Files → Type 0
CameBy L c Flushes D F = F ≡ with_frame D (frame_of L c)
CameBy L c (Faults n) D F = (F ≡ D) ⊎ (F ≡ with_frame D (frame_of L c))
CameBy L c x D F = F ≡ D

-- the pass that this region now gives
abbrev pub pass_now : CoreState → ℕ → List Pass
pass_now c r = option_map_or (λ (g : RegionState). record { region = r; answer = g.stray } ∷ []) (slice_get c.regions r) []

-- an audit begins without a pass; it passes a region that it hasn't passed; it ends by its passes
abbrev pub AuditsBy : Audits → Audits → List Record → CoreState → Step → Type 0
AuditsBy old new L c AuditBegins = new ≡ audits_with old c.system.records []
AuditsBy old new L c (Passes b r) = MayPass L c old b r × (new ≡ audits_with old b (old b ++ pass_now c r))
AuditsBy old new L c (AuditEnds b found) = IsVerdict c.system.sizes (old b) found × (new ≡ old)
AuditsBy old new L c x = new ≡ old

abbrev pub IsStepAt : Moment → Step → Moment → Type 0
IsStepAt m x n = IsStep m.log m.core x n.log n.core × AuditsBy m.audits n.audits m.log m.core x

abbrev pub IsCourse : Moment → List Step → Moment → Type 0
IsCourse m [] n = m ≡ n
IsCourse m (x ∷ xs) n = (k : Moment) × IsStepAt m x k × IsCourse k xs n

abbrev pub CoreTraced : Moment → Files → List Step → Moment → Files → Type 0
CoreTraced m D [] n F = (m ≡ n) × (D ≡ F)
CoreTraced m D (x ∷ xs) n F = (k : Moment) × (E : Files) × IsStepAt m x k × CameBy m.log m.core x D E × CoreTraced k E xs n F

pub record RunsAt (bases : Bases) (before : List Record) (leave : Files → Type 0) (m : Moment) : Type 0 where
  pub log : m.log ≡ log_after before m.core.system
  pub run : IsRun bases before leave m.core
  pub audits : AuditsRun m.log m.core m.audits

abbrev pub StepKeeps : Type 0
StepKeeps =
    (bases : Bases) (before : List Record) (m n : Moment) (x : Step) (D F : Files) → RunsAt bases before (only D) m → IsStepAt m x n → CameBy m.log m.core x D F
    → RunsAt bases before (only F) n

abbrev pub CourseKeeps : Type 0
CourseKeeps =
    (bases : Bases) (before : List Record) (m n : Moment) (xs : List Step) (D F : Files) → RunsAt bases before (only D) m → CoreTraced m D xs n F
    → RunsAt bases before (only F) n

-- so it is where nothing is said of crashes
abbrev pub BareCourseKeeps : Type 0
BareCourseKeeps = (bases : Bases) (before : List Record) (m n : Moment) (xs : List Step) → RunsAt bases before no_image m → IsCourse m xs n → RunsAt bases before no_image n

-- where nothing is logged between the taking and the flush, all records are flushed
abbrev pub TakenAllIsFlushed : Type 0
TakenAllIsFlushed = (bases : Bases) (before : List Record) (m n : Moment) → RunsAt bases before no_image m → IsCourse m (Takes ∷ Flushes ∷ []) n → stable n.core ≡ length n.log

-- ---- an audit that ends
pub record AuditTells (m : Moment) (b : ℕ) (found : List ℕ) : Type 0 where
  pub each : (r : ℕ) → r < regions m.core.system.sizes → (p : Pass) × (i : ℕ) × (slice_get (m.audits b) i ≡ Some p) × (p.region ≡ r) × (has found r ≡ not (p.answer == 0))
  pub once : (i j : ℕ) (p q : Pass) → slice_get (m.audits b) i ≡ Some p → slice_get (m.audits b) j ≡ Some q → p.region ≡ q.region → i ≡ j
  pub clean : (found ≡ []) ↔ ((r : ℕ) → r < regions m.core.system.sizes → has_found (m.audits b) r ≡ false)
  pub may : MayEndAudit m.log m.core b found

abbrev pub AuditEndTells : Type 0
AuditEndTells =
    (bases : Bases) (before : List Record) (m n : Moment) (b : ℕ) (found : List ℕ) → RunsAt bases before no_image m → IsStepAt m (AuditEnds b found) n
    → AuditTells m b found

-- a core that was just made over a log at rest, whose records are all flushed, and its vault
abbrev pub LoadRunsAt : Type 0
LoadRunsAt =
    (bases : Bases) (s : Sizes) (L : List Record) (g : Rules) (limit : ℕ) (v : VaultState) (D : Files) → IsAtRest s L g
    → limit ≤ 268435456 → length (base_at bases L) ≡ regions s → AllAreWords (base_at bases L)
    → VaultRun (only D) L (length L) v → v.flushed ≡ 0
    → RunsAt bases L (only D) (record { log = L; core = new_core s (base_at bases L) g limit v; audits = no_audits })

abbrev pub BareLoadRuns : Type 0
BareLoadRuns =
    (bases : Bases) (s : Sizes) (L : List Record) (g : Rules) (limit : ℕ) (v : VaultState) → IsAtRest s L g
    → limit ≤ 268435456 → length (base_at bases L) ≡ regions s → AllAreWords (base_at bases L)
    → VaultRun no_image L (length L) v → v.flushed ≡ 0
    → RunsAt bases L no_image (record { log = L; core = new_core s (base_at bases L) g limit v; audits = no_audits })
