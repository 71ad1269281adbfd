-- How a plan goes on over a core that one thread has alone.
--     Advanced precheck rs y p rs' y' p'       operations of the plan p led to p', and steps of a core to its regions and system
--     Finished precheck rs y p a rs' y'        so did they, and the answer a was logged
--     AreLeftOf t rs rs'       no operation was made: one region at most was latched for t, and is as its steps left it
--     Halts precheck rs y p rs' y' q e         operations of p led to q, and the next one, or the answer, was refused
--     GivenUp e given rs y p rs' y'            what they changed was taken back, or that was refused too
use Rattle.std.specs.Prelude.{◌≡◌, ◌==◌, ◌⊎◌, ℕ, Bool, false, List, ◌++◌, Some, None, slice_get, slice_set}
use Rattle.dali_record.specs.declared.operations.Pending.{Pending}
use Rattle.dali_record.specs.declared.records.Answer.{Answer}
use Rattle.dali_record.specs.declared.records.Record.{Record}
use Rattle.dali_record.specs.declared.records.Record.TheVariants.{Done}
use Rattle.dali_region.specs.State.{RegionState}
use Rattle.dali_att.specs.Table.{undos_at}
use Rattle.dali_runs.specs.State.{SystemState, VaultState, CoreState, row_of}
use Rattle.dali_runs.specs.Keeps.{HasRoom}
use Rattle.dali_runs.specs.Steps.{done_logged}
use Rattle.dali_runs.specs.Courses.{Step}
use Rattle.dali_system.specs.declared.want.Want.TheVariants.{Done as AnswerIsNext}
use Rattle.dali_calls.specs.Steps.{answer_of}
use Rattle.dali_calls.specs.Plans.{Planned, plan_next, want_of, refused, IsWhole}
use Rattle.dali_calls.specs.declared.single.error.CallError.{CallError}
use Rattle.dali_calls.specs.declared.single.error.StepError.{StepError}
use Rattle.dali_calls.specs.Single.Refusals.{IsRefusal}
use Rattle.dali_calls.specs.declared.single.error.CallError.TheVariants.{Refused, HalfDone}
use Rattle.dali_calls.specs.Single.Operated.{IsLeftOf}
use Rattle.dali_calls.specs.Single.Stands.{core, IsAtRest, AtPlan}
use Rattle.dali_calls.specs.Single.Single.{Leads}

-- the steps of a core that the operations made, and the log behind them
pub record Led (precheck : Bool) (t : ℕ) (L : List Record) (c : CoreState) (d : CoreState) (q : Planned) : Type 0 where
  pub log : List Record
  pub steps : List Step
  pub leads : Leads precheck t L c steps log d
  pub at : AtPlan log d q

pub record Advanced (precheck : Bool) (rs : List RegionState) (y : SystemState) (p : Planned) (rs' : List RegionState) (y' : SystemState) (p' : Planned) : Type 0 where
  pub rest : IsAtRest rs' y' p'
  pub sizes : y'.sizes ≡ y.sizes
  pub locks : y'.locks ≡ y.locks
  pub rows : (u : ℕ) → (p.txn == u) ≡ false → row_of y' u ≡ row_of y u
  pub same : p' ≡ record p { stage = p'.stage; changes = p'.changes; operation = p'.operation }
  pub undos : (before : List Pending) → undos_at y.table p.txn ≡ before ++ p.changes → undos_at y'.table p.txn ≡ before ++ p'.changes
  pub goes : (L : List Record) (v : VaultState) → AtPlan L (core rs y v) p → Led precheck p.txn L (core rs y v) (core rs' y' v) p'

pub record Finished (precheck : Bool) (rs : List RegionState) (y : SystemState) (p : Planned) (a : Answer) (rs' : List RegionState) (y' : SystemState) : Type 0 where
  pub plan : Planned
  pub system : SystemState
  pub advanced : Advanced precheck rs y p rs' system plan
  pub whole : IsWhole plan
  pub wants : want_of plan ≡ AnswerIsNext
  pub given : answer_of plan.geometry plan.call plan.stage ≡ Some a
  pub room : HasRoom system (Done plan.txn plan.call a)
  pub logged : y' ≡ done_logged system plan.txn plan.call a

abbrev pub AreLeftOf : ℕ → List RegionState → List RegionState → Type 0
AreLeftOf t rs rs' = (rs' ≡ rs) ⊎ ((r : ℕ) × (g : RegionState) × (h : RegionState) × (slice_get rs r ≡ Some g) × IsLeftOf t g h × (rs' ≡ slice_set rs r h))

pub record Halts (precheck : Bool) (rs : List RegionState) (y : SystemState) (p : Planned) (rs' : List RegionState) (y' : SystemState) (q : Planned) (e : StepError) : Type 0 where
  -- where the plan stood
  pub mid : List RegionState
  pub advanced : Advanced precheck rs y p mid y' q
  pub whole : IsWhole q
  pub refused : IsRefusal precheck q mid y' e
  pub left : AreLeftOf q.txn mid rs'

abbrev pub GivenUp : CallError → StepError → List RegionState → SystemState → Planned → List RegionState → SystemState → Type 0
GivenUp (Refused cause) given rs y p rs' y' = (cause ≡ given) × (q : Planned) × IsWhole q × Advanced false rs y (refused p) rs' y' q × (plan_next q ≡ None)
GivenUp (HalfDone cause) given rs y p rs' y' = (q : Planned) × Halts false rs y (refused p) rs' y' q cause
GivenUp e given rs y p rs' y' = ⊥
