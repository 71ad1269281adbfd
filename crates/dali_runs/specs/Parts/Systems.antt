-- The system's part of a run and of each step, in words of the system alone.
--     SystemRun s L y          what a run says of the system: its log, counts, table, locks and damage
--     IsInHand s g owner b     the block is the operation that is open in a region, which its caller has
--     MayLogHeld L y x owner b g     x, with the block b of this owner, may follow
--     MayLogFound L y b found  the record that ends the audit from record b, and names these regions, may follow
--     IsSystemStep L y x M z   what the step x does to the system: from the log L and the system y to the log M and the system z
--     SystemKeeps              each step keeps the system's part
--     StepHasSystem            each step of a core is one of its system
--     changes_row y x u        the step may change the row of u
--     changes_lock x u k       it may change u's lock on k
--     adds_record, changes_stop      it logs a record; it may stop the engine
--     IsLeft L y x M z         whatever else the system has is left
--     SystemLeaves             so it is of each step
use Rattle.std.specs.Prelude.{◌≡◌, ℕ, ◌+◌, ◌<◌, ◌≤◌, ◌^◌, ◌==◌, Bool, true, false, not, ◌&&◌, List, [], ◌∷◌, ◌++◌, Option, Some, None, IsSome, IfSome, is_some, nat_lt}
use Rattle.std.specs.List.{list_all}
use Rattle.dali_geometry.specs.Sizes.{Sizes}
use Rattle.dali_geometry.specs.Places.{regions}
use Rattle.dali_record.specs.declared.operations.Block.{Block}
use Rattle.dali_record.specs.declared.records.Record.{Record}
use Rattle.dali_record.specs.declared.records.Record.TheVariants.{Begin, Forward, Done, Commit, Ended, Solo, AuditBegin, Back}
use Rattle.dali_record.specs.Epochs.{last_epoch}
use Rattle.dali_record.specs.Spelling.{CanBeSpelled}
use Rattle.dali_record.specs.Legal.{Rules, rules_state, on_kind}
use Rattle.dali_region.specs.State.{RegionState, IsProtected}
use Rattle.dali_locks.specs.declared.mode.LockAnswer.TheVariants.{Granted, Busy}
use Rattle.dali_locks.specs.Locks.{IsAnswer}
use Rattle.dali_att.specs.declared.state.State.TheVariants.{Live, Dead, Cleaning}
use Rattle.dali_runs.specs.State.{SystemState, CoreState, row_of, state_of, lock_of}
use Rattle.dali_runs.specs.Run.{Bases, RunsOn, LogRun, CountRun, TableRun, LockRun, damage_in, failed_first, holds}
use Rattle.dali_runs.specs.Steps.{begun, op_logged, back_logged, solo_logged, done_logged, commit_logged, ended_logged, audit_begun, audit_ended, audit_record, granted, refused, in_state, store_stopped, in_checkpoint, taken}
use Rattle.dali_runs.specs.Regions.{IsOpen}
use Rattle.dali_runs.specs.Keeps.{HasRoom, MayAdd, IsNext, may_log_in}
use Rattle.dali_runs.specs.Audits.{IsAuditing}
use Rattle.dali_runs.specs.Courses.{Step, IsStep, Begins, Operates, TakesBack, Frees, Answers, Commits, Ends, AuditBegins, AuditEnds, Locks, Refuses, Dies, Claims, GivesBack, Stops, Checkpoints, Takes}

pub record SystemRun (s : Sizes) (L : List Record) (y : SystemState) : Type 0 where
  pub log : LogRun s L
  pub counts : CountRun s L y
  pub table : TableRun s L y.table
  pub locks : LockRun s L y
  pub damage : damage_in y.stop ≡ failed_first (last_epoch L).records
  pub failed : (g : Rules) → rules_state s L ≡ Some g → g.failed ≡ is_some (damage_in y.stop)

-- ---- one step
-- of the region the system needs what its own lock keeps, and the operation that is open there
pub record IsInHand (s : Sizes) (g : RegionState) (owner : ℕ) (b : Block) : Type 0 where
  pub within : b.region < regions s
  pub protected : IsProtected g
  pub reads : IfSome g.hold (λ h. h.read < 2 ^ 64)
  pub is_open : IsOpen g owner b

pub record MayLogHeld (L : List Record) (y : SystemState) (x : Record) (owner : ℕ) (b : Block) (g : RegionState) : Type 0 where
  pub runs : y.stop ≡ None
  pub spelled : CanBeSpelled x
  pub next : IsNext y.sizes L owner x
  pub by : may_log_in (state_of y owner) x ≡ true
  pub kind : on_kind y.sizes b.region b.op ≡ true
  pub locked : holds y owner b ≡ true
  pub hand : IsInHand y.sizes g owner b

pub record MayLogFound (L : List Record) (y : SystemState) (b : ℕ) (found : List ℕ) : Type 0 where
  pub runs : y.stop ≡ None
  pub auditing : IsAuditing y.sizes L b
  pub spelled : CanBeSpelled (audit_record b found)
  pub numbers : list_all (λ r. nat_lt r (regions y.sizes)) found ≡ true

abbrev pub Logs : List Record → Record → SystemState → List Record → SystemState → Type 0
Logs L x e M z = (M ≡ L ++ x ∷ []) × (z ≡ e)

abbrev pub LogsNone : List Record → SystemState → List Record → SystemState → Type 0
LogsNone L e M z = (M ≡ L) × (z ≡ e)

abbrev pub IsSystemStep : List Record → SystemState → Step → List Record → SystemState → Type 0
IsSystemStep L y Begins M z = HasRoom y (Begin y.next) × Logs L (Begin y.next) (begun y) M z
IsSystemStep L y (Operates t b) M z = (g : RegionState) × HasRoom y (Forward t b) × MayLogHeld L y (Forward t b) t b g × Logs L (Forward t b) (op_logged y t b) M z
IsSystemStep L y (TakesBack t b) M z = (g : RegionState) × MayLogHeld L y (Back t b) t b g × Logs L (Back t b) (back_logged y t b) M z
IsSystemStep L y (Frees p b) M z = (g : RegionState) × MayLogHeld L y (Solo y.next p b) p b g × Logs L (Solo y.next p b) (solo_logged y p b) M z
IsSystemStep L y (Answers t k a) M z = HasRoom y (Done t k a) × CanBeSpelled (Done t k a) × MayAdd L y t (Done t k a) × Logs L (Done t k a) (done_logged y t k a) M z
IsSystemStep L y (Commits t) M z = (y.stop ≡ None) × MayAdd L y t (Commit t) × Logs L (Commit t) (commit_logged y t) M z
IsSystemStep L y (Ends t) M z = (y.stop ≡ None) × MayAdd L y t (Ended t) × Logs L (Ended t) (ended_logged y t) M z
IsSystemStep L y AuditBegins M z = (y.stop ≡ None) × (y.end + 1 ≤ y.limit + 1048576) × Logs L AuditBegin (audit_begun y) M z
IsSystemStep L y (AuditEnds b found) M z = MayLogFound L y b found × Logs L (audit_record b found) (audit_ended y b found) M z
IsSystemStep L y (Locks t k m) M z = IsSome (row_of y t) × IsAnswer y.locks t k m Granted × LogsNone L (granted y t k m) M z
IsSystemStep L y (Refuses t k m h) M z = IsSome (row_of y t) × IsAnswer y.locks t k m (Busy h) × LogsNone L (refused y t k m h) M z
IsSystemStep L y (Dies t o) M z = (state_of y t ≡ Some Live) × LogsNone L (in_state y t (Dead o)) M z
IsSystemStep L y (Claims t) M z = (o : Option ℕ) × (state_of y t ≡ Some (Dead o)) × LogsNone L (in_state y t (Cleaning o)) M z
IsSystemStep L y (GivesBack t o) M z = (was : Option ℕ) × (state_of y t ≡ Some (Cleaning was)) × LogsNone L (in_state y t (Dead o)) M z
IsSystemStep L y Stops M z = LogsNone L (store_stopped y) M z
IsSystemStep L y (Checkpoints b) M z = (y.checking ≡ not b) × LogsNone L (in_checkpoint y b) M z
IsSystemStep L y Takes M z = LogsNone L (taken y) M z
IsSystemStep L y x M z = LogsNone L y M z

abbrev pub SystemKeeps : Type 0
SystemKeeps =
    (L M : List Record) (y z : SystemState) (x : Step) → SystemRun y.sizes L y
    → IsSystemStep L y x M z
    → SystemRun z.sizes M z

abbrev pub StepHasSystem : Type 0
StepHasSystem =
    (bases : Bases) (L M : List Record) (c d : CoreState) (x : Step) → RunsOn bases L c
    → IsStep L c x M d
    → IsSystemStep L c.system x M d.system

-- ---- what a step leaves
abbrev pub changes_row : SystemState → Step → ℕ → Bool
changes_row y Begins u = y.next == u
changes_row y (Operates t b) u = t == u
changes_row y (TakesBack t b) u = t == u
changes_row y (Commits t) u = t == u
changes_row y (Ends t) u = t == u
changes_row y (Dies t o) u = t == u
changes_row y (Claims t) u = t == u
changes_row y (GivesBack t o) u = t == u
changes_row y x u = false

abbrev pub changes_lock : Step → ℕ → ℕ → Bool
changes_lock (Locks t k m) u l = (t == u) && (k == l)
changes_lock (Ends t) u l = t == u
changes_lock x u l = false

abbrev pub adds_record : Step → Bool
adds_record Begins = true
adds_record (Operates t b) = true
adds_record (TakesBack t b) = true
adds_record (Frees p b) = true
adds_record (Answers t k a) = true
adds_record (Commits t) = true
adds_record (Ends t) = true
adds_record AuditBegins = true
adds_record (AuditEnds b found) = true
adds_record x = false

abbrev pub changes_stop : Step → Bool
changes_stop (AuditEnds b found) = true
changes_stop Stops = true
changes_stop x = false

abbrev pub is_refusal : Step → Bool
is_refusal (Refuses t k m h) = true
is_refusal x = false

abbrev pub is_taking : Step → Bool
is_taking Takes = true
is_taking x = false

abbrev pub is_turn : Step → Bool
is_turn (Checkpoints b) = true
is_turn x = false

-- the log's counts
pub record CountsLeft (L : List Record) (y : SystemState) (M : List Record) (z : SystemState) : Type 0 where
  pub log : M ≡ L
  pub since : z.since ≡ y.since
  pub records : z.records ≡ y.records
  pub end : z.end ≡ y.end
  pub next : z.next ≡ y.next

pub record IsLeft (L : List Record) (y : SystemState) (x : Step) (M : List Record) (z : SystemState) : Type 0 where
  pub sizes : z.sizes ≡ y.sizes
  pub first : z.first ≡ y.first
  pub limit : z.limit ≡ y.limit
  pub rows : (u : ℕ) → changes_row y x u ≡ false → row_of z u ≡ row_of y u
  pub locks : (u k : ℕ) → changes_lock x u k ≡ false → lock_of z u k ≡ lock_of y u k
  pub counts : adds_record x ≡ false → CountsLeft L y M z
  pub stop : changes_stop x ≡ false → z.stop ≡ y.stop
  pub refusals : is_refusal x ≡ false → z.refusals ≡ y.refusals
  pub taken : is_taking x ≡ false → z.taken ≡ y.taken
  pub checking : is_turn x ≡ false → z.checking ≡ y.checking

abbrev pub SystemLeaves : Type 0
SystemLeaves = (L M : List Record) (y z : SystemState) (x : Step) → IsSystemStep L y x M z → IsLeft L y x M z
