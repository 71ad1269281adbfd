-- A call, one step at a time, beside other clients: its request, each operation, the death in one, and its answer.
--     IsNew p                  the plan p has made no operation
--     IsAsked a L c p d        the lock table answered a to the plan p: a lock that is granted is one step, behind which p is where its transaction begins it.
--                              One that must wait changes nothing; a Busy is a step too, and the transaction may call as before
--     OneFurther precheck p rs y q rs' y'      the next operation of p was made: one region has it, the system has its record, the plan goes on as q
--     LeadsOnce precheck L c p b d q   steps of the transaction lead there, and the log L has one record more: that of the block b
--     IsDeath precheck p rs y rs' y'   the client of p died in its next operation: all words of it are written, its region's hold is dead, and the row names it
--     DiesIn precheck L c t r d        steps lead there, the death is the last of them, and no record is logged
--     AnswersNow L c p a d     the answer a of p is logged, and the transaction may call again
use Rattle.std.specs.Prelude.{◌≡◌, ℕ, Bool, List, [], ◌∷◌, ◌++◌, Some, None, slice_get, slice_set}
use Rattle.dali_record.specs.declared.operations.Block.{Block}
use Rattle.dali_record.specs.declared.operations.Pending.{Pending}
use Rattle.dali_record.specs.declared.records.Answer.{Answer}
use Rattle.dali_record.specs.declared.records.Record.{Record}
use Rattle.dali_record.specs.declared.records.Record.TheVariants.{Done}
use Rattle.dali_region.specs.State.{RegionState, touched, dead}
use Rattle.dali_locks.specs.declared.mode.LockAnswer.{LockAnswer}
use Rattle.dali_locks.specs.declared.mode.LockAnswer.TheVariants.{Granted, Wait, Busy}
use Rattle.dali_att.specs.declared.state.State.TheVariants.{Dead}
use Rattle.dali_att.specs.Table.{undos_at}
use Rattle.dali_runs.specs.State.{SystemState, VaultState, CoreState}
use Rattle.dali_runs.specs.Steps.{in_state}
use Rattle.dali_runs.specs.Keeps.{IsFree}
use Rattle.dali_runs.specs.Courses.{Step, Locks, Refuses, Dies, Answers, IsStep}
use Rattle.dali_calls.specs.declared.stage.Stage.TheVariants.{Fresh}
use Rattle.dali_calls.specs.declared.plan.Phase.TheVariants.{Calling}
use Rattle.dali_calls.specs.Steps.{call_key}
use Rattle.dali_calls.specs.Plans.{Planned, is_back, mode_of}
use Rattle.dali_calls.specs.Single.Stands.{core, IsAtRest, AtPlan}
use Rattle.dali_calls.specs.Single.Single.{Leads, MayCall}
use Rattle.dali_calls.specs.Stepwise.Opened.{IsOpened, IsLogged, record_on}

-- ---- the request
abbrev pub IsNew : Planned → Type 0
IsNew p = p ≡ record p { stage = Fresh; phase = Calling; changes = []; operation = None }

abbrev pub IsAsked : LockAnswer → List Record → CoreState → Planned → CoreState → Type 0
IsAsked Granted L c p d = IsStep L c (Locks p.txn (call_key p.call) (mode_of p.call)) L d × AtPlan L d p × IsAtRest d.regions d.system p
IsAsked (Wait h) L c p d = d ≡ c
IsAsked (Busy h) L c p d = IsStep L c (Refuses p.txn (call_key p.call) (mode_of p.call) h) L d × MayCall L d p.txn

-- ---- an operation
pub record LeadsOnce (precheck : Bool) (L : List Record) (c : CoreState) (p : Planned) (b : Block) (d : CoreState) (q : Planned) : Type 0 where
  pub steps : List Step
  pub leads : Leads precheck p.txn L c steps (L ++ record_on (is_back p) p.txn b ∷ []) d
  pub at : AtPlan (L ++ record_on (is_back p) p.txn b ∷ []) d q

pub record OneFurther (precheck : Bool) (p : Planned) (rs : List RegionState) (y : SystemState) (q : Planned) (rs' : List RegionState) (y' : SystemState) : Type 0 where
  pub block : Block
  pub region : RegionState
  pub opened : RegionState
  pub at : slice_get rs block.region ≡ Some region
  pub is : IsOpened precheck p region block opened
  pub regions : rs' ≡ slice_set rs block.region (touched opened)
  pub logged : IsLogged (is_back p) p block y q y'
  pub rest : IsAtRest rs' y' q
  pub same : q ≡ record p { stage = q.stage; changes = q.changes; operation = q.operation }
  -- what takes the transaction back grows and shrinks with what takes the call back
  pub undos : (before : List Pending) → undos_at y.table p.txn ≡ before ++ p.changes → undos_at y'.table p.txn ≡ before ++ q.changes
  pub leads : (L : List Record) (v : VaultState) → AtPlan L (core rs y v) p → LeadsOnce precheck L (core rs y v) p block (core rs' y' v) q

-- ---- the death in one
pub record DiesIn (precheck : Bool) (L : List Record) (c : CoreState) (t r : ℕ) (d : CoreState) : Type 0 where
  pub mid : CoreState
  pub steps : List Step
  pub leads : Leads precheck t L c steps L mid
  pub dies : IsStep L mid (Dies t (Some r)) L d

pub record IsDeath (precheck : Bool) (p : Planned) (rs : List RegionState) (y : SystemState) (rs' : List RegionState) (y' : SystemState) : Type 0 where
  pub block : Block
  pub region : RegionState
  pub opened : RegionState
  pub at : slice_get rs block.region ≡ Some region
  pub is : IsOpened precheck p region block opened
  pub regions : rs' ≡ slice_set rs block.region (dead opened)
  pub system : y' ≡ in_state y p.txn (Dead (Some block.region))
  pub leads : (L : List Record) (v : VaultState) → IsFree (core rs y v) p.txn → DiesIn precheck L (core rs y v) p.txn block.region (core rs' y' v)

-- ---- the answer
pub record AnswersNow (L : List Record) (c : CoreState) (p : Planned) (a : Answer) (d : CoreState) : Type 0 where
  pub step : IsStep L c (Answers p.txn p.call a) (L ++ Done p.txn p.call a ∷ []) d
  pub may : MayCall (L ++ Done p.txn p.call a ∷ []) d p.txn
