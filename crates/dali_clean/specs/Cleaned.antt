-- A dead transaction is cleaned up by a thread that has the core alone.
--     core rs y v, moment rs y L v a   the core of these regions, this system and this vault; and with a log and what audits have passed
--     AreDead rs               no region has a hold of a client that is alive
--     AreQuiet t rs            and none has one of t
--     MayClean rs y t          what a clean-up of t asks of regions and system: a whole core without a live hold has it
--     WholeMayClean            so it does
--     InRun bases before m     the core is a run, and whole
--     Led P m rs z             steps that have P lead from the moment m to these regions and this system
--     LeadsBy P rs y rs' z     so they do from each run
--     LeadsOn rs y t rs' z     so do those that perform undos of t
--     IsCleaning rs y t        t is claimed, has no region latched, and its undos are on regions of their kind
--     IsDead o                 the state of a dead transaction
--     IsLeftAt rs r, IsRecovered rs o rs'      some operation is open on the region r; and it was taken back there, if o names one
--     Claims rs y t rs' z      t was claimed, and the operation in which its client died taken back
--     IsUndone rs y t rs' z    all undos of t were performed, and the system logged its end
--     Ends, GivesBack          the steps of a clean-up lead to its end; or to its claim given back, and it is dead again
use Rattle.std.specs.Prelude.{◌≡◌, ◌==◌, ℕ, true, false, List, [], ◌∷◌, ◌++◌, Option, Some, None, IfSome, IsSome, IsSomeAnd, length, slice_get, slice_set}
use Rattle.dali_geometry.specs.Places.{regions}
use Rattle.dali_record.specs.declared.records.Record.{Record}
use Rattle.dali_record.specs.declared.records.Record.TheVariants.{Ended}
use Rattle.dali_region.specs.declared.Hold.{Hold}
use Rattle.dali_region.specs.State.{RegionState, taken_back}
use Rattle.dali_att.specs.declared.state.State.{State}
use Rattle.dali_att.specs.declared.state.State.TheVariants.{Dead}
use Rattle.dali_att.specs.Table.{undos_at}
use Rattle.dali_runs.specs.State.{SystemState, VaultState, CoreState, row_of, state_of, hold_in}
use Rattle.dali_runs.specs.Run.{Bases, no_image}
use Rattle.dali_runs.specs.Steps.{ended_logged}
use Rattle.dali_runs.specs.Passes.{Audits}
use Rattle.dali_runs.specs.Wholes.{IsWhole, AreOfKind, latched_in}
use Rattle.dali_runs.specs.Courses.{Step, GivesBack as GivesTxnBack, Ends as EndsTxn, Moment, IsCourse, RunsAt}
use Rattle.dali_calls.specs.TakingBack.{is_claimed}
use Rattle.dali_clean.specs.Steps.{AreBack, IsClaim, IsCleanUp, AreBeside}

abbrev pub core : List RegionState → SystemState → VaultState → CoreState
core rs y v = record { regions = rs; system = y; vault = v }

abbrev pub moment : List RegionState → SystemState → List Record → VaultState → Audits → Moment
moment rs y L v a = record { log = L; core = core rs y v; audits = a }

abbrev pub AreDead : List RegionState → Type 0
AreDead rs = (r : ℕ) (g : RegionState) → slice_get rs r ≡ Some g → IfSome g.hold (λ h. h.dead ≡ true)

abbrev pub AreQuiet : ℕ → List RegionState → Type 0
AreQuiet t rs = (r : ℕ) (g : RegionState) → slice_get rs r ≡ Some g → IfSome g.hold (λ h. (h.dead ≡ true) × ((h.txn == t) ≡ false))

pub record MayClean (rs : List RegionState) (y : SystemState) (t : ℕ) : Type 0 where
  pub regions : length rs ≡ regions y.sizes
  pub kind : AreOfKind y.sizes (row_of y t)
  pub dead : AreDead rs
  -- a hold of t is where its row says, and where its row says one it is
  pub own : (r : ℕ) (h : Hold) → hold_in (slice_get rs r) ≡ Some h → h.txn ≡ t → latched_in (state_of y t) ≡ Some r
  pub named : (r : ℕ) → state_of y t ≡ Some (Dead (Some r)) → (h : Hold) × (hold_in (slice_get rs r) ≡ Some h) × (h.txn ≡ t) × (h.dead ≡ true)

abbrev pub WholeMayClean : Type 0
WholeMayClean = (rs : List RegionState) (y : SystemState) (v : VaultState) (t : ℕ) → IsWhole (core rs y v) → AreDead rs → MayClean rs y t

pub record InRun (bases : Bases) (before : List Record) (m : Moment) : Type 0 where
  pub run : RunsAt bases before no_image m
  pub whole : IsWhole m.core

pub record Led (P : List Step → Type 0) (m : Moment) (rs : List RegionState) (z : SystemState) : Type 0 where
  pub log : List Record
  pub steps : List Step
  pub are : P steps
  pub course : IsCourse m steps (moment rs z log m.core.vault m.audits)

abbrev pub LeadsBy : (List Step → Type 0) → List RegionState → SystemState → List RegionState → SystemState → Type 0
LeadsBy P rs y rs' z = (bases : Bases) (before L : List Record) (v : VaultState) (a : Audits) → InRun bases before (moment rs y L v a) → Led P (moment rs y L v a) rs' z

abbrev pub LeadsOn : List RegionState → SystemState → ℕ → List RegionState → SystemState → Type 0
LeadsOn rs y t rs' z = LeadsBy (AreBack t) rs y rs' z

pub record IsCleaning (rs : List RegionState) (y : SystemState) (t : ℕ) : Type 0 where
  pub regions : length rs ≡ regions y.sizes
  pub kind : AreOfKind y.sizes (row_of y t)
  pub quiet : AreQuiet t rs
  pub claimed : IsSomeAnd (state_of y t) is_claimed

abbrev pub IsDead : Option State → Type 0
IsDead o = (latched : Option ℕ) × (o ≡ Some (Dead latched))

abbrev pub IsLeftAt : List RegionState → ℕ → Type 0
IsLeftAt rs r = (g : RegionState) × (slice_get rs r ≡ Some g) × IsSome g.hold

abbrev pub IsRecovered : List RegionState → Option ℕ → List RegionState → Type 0
IsRecovered rs None rs' = rs' ≡ rs
IsRecovered rs (Some r) rs' = (g : RegionState) × (slice_get rs r ≡ Some g) × (rs' ≡ slice_set rs r (taken_back g))

pub record Claims (rs : List RegionState) (y : SystemState) (t : ℕ) (rs' : List RegionState) (z : SystemState) : Type 0 where
  pub goes : LeadsBy (IsClaim y t) rs y rs' z
  pub is : IsCleaning rs' z t
  pub stop : z.stop ≡ y.stop

pub record IsUndone (rs : List RegionState) (y : SystemState) (t : ℕ) (rs' : List RegionState) (z : SystemState) : Type 0 where
  pub mid : SystemState
  pub goes : LeadsOn rs y t rs' mid
  pub is : IsCleaning rs' mid t
  pub none : undos_at mid.table t ≡ []
  pub runs : mid.stop ≡ None
  pub system : z ≡ ended_logged mid t

-- the log ends with its end
pub record IsEnded (bases : Bases) (before : List Record) (m : Moment) (t : ℕ) (rs : List RegionState) (z : SystemState) : Type 0 where
  pub log : List Record
  pub steps : List Step
  pub by : IsCleanUp m.core.system t (EndsTxn t) steps
  pub beside : AreBeside t m.core.system steps
  pub course : IsCourse m steps (moment rs z (log ++ Ended t ∷ []) m.core.vault m.audits)
  pub run : RunsAt bases before no_image (moment rs z (log ++ Ended t ∷ []) m.core.vault m.audits)
  pub whole : IsWhole (core rs z m.core.vault)

abbrev pub Ends : List RegionState → SystemState → ℕ → List RegionState → SystemState → Type 0
Ends rs y t rs' z = (bases : Bases) (before L : List Record) (v : VaultState) (a : Audits) → InRun bases before (moment rs y L v a) → IsEnded bases before (moment rs y L v a) t rs' z

-- it may be asked for again
pub record IsGivenBack (bases : Bases) (before : List Record) (m : Moment) (t : ℕ) (rs : List RegionState) (z : SystemState) : Type 0 where
  pub led : Led (IsCleanUp m.core.system t (GivesTxnBack t None)) m rs z
  pub beside : AreBeside t m.core.system led.steps
  pub again : InRun bases before (moment rs z led.log m.core.vault m.audits)

abbrev pub GivesBack : List RegionState → SystemState → ℕ → List RegionState → SystemState → Type 0
GivesBack rs y t rs' z = (bases : Bases) (before L : List Record) (v : VaultState) (a : Audits) → InRun bases before (moment rs y L v a) → IsGivenBack bases before (moment rs y L v a) t rs' z
