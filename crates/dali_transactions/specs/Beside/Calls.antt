-- What the clauses of the calls of one client say, wherever the core stands in a run.
--     BeginGoes                a transaction that begins is between two calls
--     HasAsked, AskGoes        a request that is granted, must wait, or is refused
--     OperateGoes, DieGoes, AnswerGoes     an operation, the death in one, and an answer
--     PerformGoes              a whole call that is answered
--     ReleaseGoes              what a dead client left on a region was taken back
--     IsLetGo, ReleaseTells    its row then names no region any more, and no record says so; or another has claimed it
--     CleanGoes, LeftGoes      a transaction whose client died was cleaned up; or some of its undos were performed, and it is dead again
--     IsOfEnd t x              the record x is one of an end of t
--     EndGoes, LeavesOthers, CommitLeaves, FailureLeaves       an end leaves each other transaction that is live or committed where it was
use Rattle.std.specs.Prelude.{◌≡◌, ◌==◌, ◌⊎◌, ℕ, Bool, true, false, ⊤, List, [], ◌∷◌, ◌++◌, Option, Some, None, slice_get, slice_set}
use Rattle.std.specs.List.{AllByRecursion}
use Rattle.dali_record.specs.declared.records.Answer.{Answer}
use Rattle.dali_record.specs.declared.records.Call.{Call}
use Rattle.dali_record.specs.declared.records.Record.{Record}
use Rattle.dali_record.specs.declared.records.Record.TheVariants.{Begin, Done, Commit, Ended, Solo, Back}
use Rattle.dali_region.specs.declared.Hold.{Hold}
use Rattle.dali_region.specs.State.{RegionState}
use Rattle.dali_locks.specs.declared.mode.LockAnswer.{LockAnswer}
use Rattle.dali_locks.specs.declared.mode.LockAnswer.TheVariants.{Granted, Wait, Busy}
use Rattle.dali_att.specs.declared.state.State.TheVariants.{Dead}
use Rattle.dali_store.specs.Store.{Files as Disk}
use Rattle.dali_store.specs.declared.store.Store.{Ghosts}
use Rattle.dali_runs.specs.State.{SystemState, row_of, state_of}
use Rattle.dali_runs.specs.Steps.{begun}
use Rattle.dali_runs.specs.Keeps.{HasRoom, IsFree}
use Rattle.dali_runs.specs.Courses.{Ends as EndsTxn, GivesBack as GivesTxnBack}
use Rattle.dali_crash.specs.Checkpoints.{Point}
use Rattle.dali_crash.specs.Traces.{Start}
use Rattle.dali_core.specs.Vault.Vaulted.{Vaulted}
use Rattle.dali_calls.specs.Plans.{Planned, is_back}
use Rattle.dali_calls.specs.Others.{IsGone}
use Rattle.dali_calls.specs.Single.Stands.{core, IsAtRest, AtPlan}
use Rattle.dali_calls.specs.Single.Single.{MayCall, IsAnswered}
use Rattle.dali_calls.specs.Single.Ending.{IsBackOf}
use Rattle.dali_clean.specs.Undone.{Released}
use Rattle.dali_clean.specs.Cleaned.{AreDead, IsDead, Ends, GivesBack}
use Rattle.dali_clean.specs.Others.{OthersStay}
use Rattle.dali_clean.specs.Steps.{IsCleanUp, AreBeside}
use Rattle.dali_calls.specs.Stepwise.Beside.{LeavesBe}
use Rattle.dali_calls.specs.Stepwise.Opened.{record_on}
use Rattle.dali_calls.specs.Stepwise.Stepwise.{IsAsked, OneFurther, IsDeath, AnswersNow}
use Rattle.dali_transactions.specs.Stands.{StandsAt}
use Rattle.dali_transactions.specs.Ended.{HasCome}
use Rattle.dali_transactions.specs.Committed.{HasCommitted, HasFailed}
use Rattle.dali_transactions.specs.Beside.Went.{Went, is_open}

-- a record of an end of t, or of a part of it
abbrev pub IsOfEnd : ℕ → Record → Type 0
IsOfEnd t (Back u b) = u ≡ t
IsOfEnd t (Solo n u b) = u ≡ t
IsOfEnd t (Commit u) = u ≡ t
IsOfEnd t (Ended u) = u ≡ t
IsOfEnd t x = ⊥

abbrev pub HasAsked : LockAnswer → Planned → Point → Type 0
HasAsked Granted plan q = AtPlan q.log q.core plan × IsAtRest q.core.regions q.core.system plan
HasAsked (Wait h) plan q = ⊤
HasAsked (Busy h) plan q = MayCall q.log q.core plan.txn

-- of the hold k, whose client died in an operation on region r
abbrev pub IsLetGo : SystemState → ℕ → Hold → SystemState → Type 0
IsLetGo y r k z =
    ((state_of y k.txn ≡ Some (Dead (Some r))) × (state_of z k.txn ≡ Some (Dead None)) × ((u : ℕ) → (k.txn == u) ≡ false → row_of z u ≡ row_of y u))
    ⊎ (((o : Option ℕ) → state_of y k.txn ≡ Some (Dead o) → ⊥) × (z ≡ y))

module _ {V : Type 0} (means : Ghosts V) where
  abbrev pub BeginGoes : Type 0
  BeginGoes =
      (s : Start) (B : List (List Record)) (p : Point) (gs : List RegionState) (y : SystemState) (v : Vaulted V) → StandsAt means s B p gs y v → HasRoom y (Begin y.next)
      → (w : Went means y.next (Begin y.next ∷ []) s B p gs gs (begun y) v) × MayCall w.to.log w.to.core y.next

  abbrev pub AskGoes : Type 0
  AskGoes =
      (s : Start) (B : List (List Record)) (p : Point) (gs : List RegionState) (y z : SystemState) (v : Vaulted V) (plan : Planned) (a : LockAnswer) → StandsAt means s B p gs y v
      → IsAsked a p.log (core gs y p.core.vault) plan (core gs z p.core.vault)
      → (w : Went means plan.txn [] s B p gs gs z v) × HasAsked a plan w.to

  abbrev pub OperateGoes : Type 0
  OperateGoes =
      (precheck : Bool) (s : Start) (B : List (List Record)) (p : Point) (gs hs : List RegionState) (y z : SystemState) (v : Vaulted V) (plan further : Planned) → StandsAt means s B p gs y v
      → AtPlan p.log p.core plan → (o : OneFurther precheck plan gs y further hs z)
      → (w : Went means plan.txn (record_on (is_back plan) plan.txn o.block ∷ []) s B p gs hs z v) × AtPlan w.to.log w.to.core further

  abbrev pub DieGoes : Type 0
  DieGoes =
      (precheck : Bool) (s : Start) (B : List (List Record)) (p : Point) (gs hs : List RegionState) (y z : SystemState) (v : Vaulted V) (plan : Planned) → StandsAt means s B p gs y v
      → IsFree p.core plan.txn → IsDeath precheck plan gs y hs z
      → Went means plan.txn [] s B p gs hs z v

  abbrev pub AnswerGoes : Type 0
  AnswerGoes =
      (s : Start) (B : List (List Record)) (p : Point) (gs : List RegionState) (y z : SystemState) (v : Vaulted V) (plan : Planned) (a : Answer) → StandsAt means s B p gs y v
      → AnswersNow p.log (core gs y p.core.vault) plan a (core gs z p.core.vault)
      → (w : Went means plan.txn (Done plan.txn plan.call a ∷ []) s B p gs gs z v) × MayCall w.to.log w.to.core plan.txn

  abbrev pub PerformGoes : Type 0
  PerformGoes =
      (precheck : Bool) (s : Start) (B : List (List Record)) (p : Point) (gs hs : List RegionState) (y z : SystemState) (v : Vaulted V) (t : ℕ) (call : Call) (a : Answer) → StandsAt means s B p gs y v
      → IsAnswered precheck p.log (core gs y p.core.vault) t call a (core hs z p.core.vault)
      → (own : List Record) × (w : Went means t own s B p gs hs z v) × MayCall w.to.log w.to.core t

  -- ---- what dead clients left
  -- no live transaction has a step in it
  abbrev pub ReleaseGoes : Type 0
  ReleaseGoes =
      (s : Start) (B : List (List Record)) (p : Point) (gs : List RegionState) (y z : SystemState) (v : Vaulted V) (r : ℕ) (g h : RegionState) → StandsAt means s B p gs y v
      → slice_get gs r ≡ Some g → Released g y h z → (t : ℕ)
      → Went means t [] s B p gs (slice_set gs r h) z v

  abbrev pub ReleaseTells : Type 0
  ReleaseTells =
      (s : Start) (B : List (List Record)) (p : Point) (gs : List RegionState) (y z : SystemState) (v : Vaulted V) (r : ℕ) (g h : RegionState) (k : Hold) → StandsAt means s B p gs y v
      → slice_get gs r ≡ Some g → g.hold ≡ Some k → Released g y h z
      → IsLetGo y r k z

  abbrev pub CleanGoes : Type 0
  CleanGoes =
      (s : Start) (B : List (List Record)) (p : Point) (gs hs : List RegionState) (y z : SystemState) (v : Vaulted V) (t : ℕ) → StandsAt means s B p gs y v
      → AreDead hs → Ends gs y t hs z → OthersStay gs y t hs z → IsDead (state_of y t) → IsGone z t
      → (backs : List Record) × AllByRecursion (IsBackOf t) backs × (w : Went means t (backs ++ Ended t ∷ []) s B p gs hs z v)
      × IsCleanUp y t (EndsTxn t) w.steps × AreBeside t y w.steps

  abbrev pub LeftGoes : Type 0
  LeftGoes =
      (s : Start) (B : List (List Record)) (p : Point) (gs hs : List RegionState) (y z : SystemState) (v : Vaulted V) (t : ℕ) → StandsAt means s B p gs y v
      → AreDead hs → GivesBack gs y t hs z → OthersStay gs y t hs z → IsDead (state_of y t) → state_of z t ≡ Some (Dead None)
      → (backs : List Record) × AllByRecursion (IsBackOf t) backs × (w : Went means t backs s B p gs hs z v)
      × IsCleanUp y t (GivesTxnBack t None) w.steps × AreBeside t y w.steps

  -- ---- ends
  abbrev pub EndGoes : Type 0
  EndGoes =
      (last : List Record) (s : Start) (B : List (List Record)) (p : Point) (gs hs : List RegionState) (y z : SystemState) (v : Vaulted V) (t : ℕ) → StandsAt means s B p gs y v
      → (e : HasCome means t (IsBackOf t) last s B p v hs z) → AllByRecursion (IsOfEnd t) last → OthersStay gs y t hs z
      → (w : Went means t (e.records ++ last) s B p gs hs z v) × (w.to ≡ e.to) × (w.steps ≡ e.steps)

  -- each other transaction that is live or committed is where it was
  abbrev pub LeavesOthers : ℕ → Point → Point → Type 0
  LeavesOthers t p q = (u : ℕ) → (t == u) ≡ false → is_open (state_of p.core.system u) ≡ true → LeavesBe u p.log p.core q.log q.core

  abbrev pub CommitLeaves : Type 0
  CommitLeaves =
      (s : Start) (B : List (List Record)) (p : Point) (gs hs : List RegionState) (y z : SystemState) (v w : Vaulted V) (t : ℕ) → StandsAt means s B p gs y v
      → (c : HasCommitted means s B p gs y v t hs z w) → OthersStay gs y t hs z
      → LeavesOthers t p c.settled.to

  abbrev pub FailureLeaves : Type 0
  FailureLeaves =
      (s : Start) (B : List (List Record)) (p : Point) (gs : List RegionState) (y z : SystemState) (v w : Vaulted V) (t : ℕ) → StandsAt means s B p gs y v
      → (c : HasFailed means s B p gs y v t z w) → OthersStay gs y t gs z
      → LeavesOthers t p c.stopped.to
