-- A plan: the operations of one call, its answer, and the way back over what it changed.
--     Planned                  what contracts see of a plan
--     is_back p                whether the plan takes back: it was refused, or has to before its answer
--     plan_next p              the next operation and its region, on its call or on its way back
--     want_of p                what the plan needs next
--     mode_of call             the mode in which its transaction is to hold the call's key
--     GoesOn p b q, went_back p        the plan behind the block b of its next operation, on its call and on its way back
--     IsWhole p                what is true of every plan
use Rattle.std.specs.Prelude.{◌≡◌, ℕ, ◌≤◌, Bool, true, false, not, ◌&&◌, ⊤, List, [], ◌++◌, Option, Some, None, if◌then◌else◌, length}
use Rattle.std.specs.List.{AllByRecursion}
use Rattle.dali_geometry.specs.Sizes.{Sizes, AreInRange}
use Rattle.dali_record.specs.declared.operations.Op.{Op}
use Rattle.dali_record.specs.declared.operations.Block.{Block}
use Rattle.dali_record.specs.declared.operations.Pending.{Pending}
use Rattle.dali_record.specs.declared.records.Call.{Call}
use Rattle.dali_record.specs.declared.records.Answer.{Answer}
use Rattle.dali_record.specs.Operations.{undo_op}
use Rattle.dali_record.specs.Log.{last_of, drop_last, undo_added}
use Rattle.dali_record.specs.Calls.{takes_back, follow}
use Rattle.dali_record.specs.Legal.{is_none_left, on_kind}
use Rattle.dali_record.specs.Spelling.{Is64, IsOperation, IsCall}
use Rattle.dali_locks.specs.declared.mode.Mode.{Mode}
use Rattle.dali_locks.specs.declared.mode.Mode.TheVariants.{Shared, Exclusive}
use Rattle.dali_runs.specs.State.{SystemState}
use Rattle.dali_system.specs.declared.error.SystemError.{SystemError}
use Rattle.dali_system.specs.Refused.{refusal, stop_refusal}
use Rattle.dali_system.specs.declared.want.Want.{Want}
use Rattle.dali_system.specs.declared.want.Want.TheVariants.{Region, Done, Nothing}
use Rattle.dali_system.specs.declared.operation.Operation.{Operation}
use Rattle.dali_calls.specs.declared.stage.Stage.{Stage}
use Rattle.dali_calls.specs.declared.plan.Phase.{Phase}
use Rattle.dali_calls.specs.declared.plan.Phase.TheVariants.{Calling, Refused, Answered}
use Rattle.dali_calls.specs.Steps.{call_key, progress_of, next_op, answer_of, is_fresh, is_get, most, IsAt, IsBlockOf}

pub record Planned : Type 0 where
  pub geometry : Sizes
  pub txn : ℕ
  pub call : Call
  pub stage : Stage
  pub phase : Phase
  -- what takes back the operations of the call that changed something
  pub changes : List Pending
  -- the operation that is open
  pub operation : Option Operation

abbrev pub with_operation : Planned → Option Operation → Planned
with_operation p o = record p { operation = o }

abbrev pub refused : Planned → Planned
refused p = record p { phase = Refused }

abbrev pub answered : Planned → Planned
answered p = record p { phase = Answered }

-- behind the block that takes the last change back
abbrev pub went_back : Planned → Planned
went_back p = record p { changes = drop_last p.changes; operation = None }

-- behind the block b of the call's next operation: the call has come as far as the rules of the log say, and what takes b back is noted
pub record GoesOn (p : Planned) (b : Block) (q : Planned) : Type 0 where
  pub follows : follow p.geometry p.txn (progress_of p.call p.stage) b ≡ Some (progress_of p.call q.stage)
  pub begun : is_fresh q.stage ≡ false
  pub changes : q.changes ≡ p.changes ++ undo_added b b.undo
  pub rest : q ≡ record p { stage = q.stage; changes = q.changes; operation = None }

-- why the block of the open operation isn't logged, if so: one that takes back uses no room
abbrev pub commit_refusal : Bool → SystemState → ℕ → Option SystemError
commit_refusal true y n = stop_refusal y
commit_refusal false y n = refusal y n

abbrev pub goes_back : Option Answer → Bool
goes_back None = false
goes_back (Some a) = takes_back a

abbrev pub is_answered : Phase → Bool
is_answered Answered = true
is_answered _ = false

abbrev pub is_back_in : Phase → Option Answer → List Pending → Bool
is_back_in Calling answer changes = goes_back answer && not (is_none_left changes)
is_back_in Refused answer changes = true
is_back_in Answered answer changes = false

abbrev pub is_back : Planned → Bool
is_back p = is_back_in p.phase (answer_of p.geometry p.call p.stage) p.changes

abbrev pub undo_next : Option Pending → Option (ℕ × Op)
undo_next None = None
undo_next (Some u) = Some (u.region, undo_op u.undo)

abbrev pub onward_next : Phase → Option (ℕ × Op) → Option (ℕ × Op)
onward_next Answered o = None
onward_next _ o = o

abbrev pub plan_next : Planned → Option (ℕ × Op)
plan_next p = if is_back p then undo_next (last_of p.changes) else onward_next p.phase (next_op p.geometry p.txn p.call p.stage)

abbrev pub want_in : Phase → Option (ℕ × Op) → Want
want_in phase (Some o) = Region o.0
want_in Calling None = Done
want_in _ None = Nothing

abbrev pub want_of : Planned → Want
want_of p = want_in p.phase (plan_next p)

abbrev pub mode_of : Call → Mode
mode_of call = if is_get call then Shared else Exclusive

-- ---- what is true of every plan
-- what it takes back is on the call's key, in a region of its kind
pub record IsUndoOf (s : Sizes) (call : Call) (u : Pending) : Type 0 where
  pub key : u.key ≡ call_key call
  pub kind : on_kind s u.region (undo_op u.undo) ≡ true
  pub spelled : IsOperation (undo_op u.undo)

abbrev pub IsOfPlan : Planned → Option Operation → Type 0
IsOfPlan p None = ⊤
IsOfPlan p (Some o) = (o.txn ≡ p.txn) × IsBlockOf (plan_next p) (call_key p.call) o.block

pub record IsWhole (p : Planned) : Type 0 where
  pub sizes : AreInRange p.geometry
  pub txn : Is64 p.txn
  pub call : IsCall p.call
  pub at : IsAt p.geometry p.call p.stage
  pub undoes : AllByRecursion (IsUndoOf p.geometry p.call) p.changes
  pub few : length p.changes ≤ most p.stage
  -- a get changes nothing
  pub gets : is_get p.call ≡ true → p.changes ≡ []
  pub operation : IsOfPlan p p.operation
