-- A core that one thread has alone, and what a whole call makes of it.
--     is_end x                 the step x logs the answer of a call, a commit or an end
--     IsOwnStep t c x          the step x is one of t's: it asks for a lock and is granted it, makes an operation on a region, or logs a record of t
--     Look                     what the last latch found: the region's number, and the region as it stood there
--     look_behind c x o        the last look behind the step x of the core c, which was o before it
--     LooksRight precheck o x  with precheck an operation that goes on with a call is logged only where its look, the latch of its region, found no
--                              damage. What came to the region since then isn't asked
--     LeadsFrom precheck t o L c xs M d        these steps of t, none of which is such an end, lead from the log L and the core c to the log M and the core d,
--                              where the last look before them was o
--     Leads precheck t L c xs M d      so they do where there was none: each operation among them has its look among them
--     OthersStay y t z         each other transaction has the row and the locks that it had
--     HoldsStay t c d          it has the regions latched that it had
--     StandAside t L c M d     so it is, and the rules of the log have it where they had it
--     MayCall L c t            t is between two calls, and has no region latched
--     IsAnswered precheck L c t call a d       a call was answered: behind its operations comes its answer, and t may call again
--     IsRefusedAt precheck L c t call phase e  steps of t lead to where the plan of its call stands, in this phase, and what it wants next is refused
--     IsAsBefore, IsHalfDone   a call was refused so, and t may call again and has the undos that it had; or its taking back was refused too, and t
--                              is in the midst of the call
--     Fails precheck e L c t call d    so it is, by the error
--     AreCovered y t           each undo of t may be performed: it is on a region of its kind, and t has its key alone
--     RunCovers                so it is at each point of a run
--     Keeps y t z              the system has the sizes that it had, t its state, and undos that are covered where they were; and others stay
use Rattle.std.specs.Prelude.{◌≡◌, ◌==◌, ◌<◌, ◌≤◌, ◌↔◌, ◌⊎◌, ℕ, Bool, true, false, ⊤, List, [], ◌∷◌, ◌++◌, Option, Some, None, IsSomeAnd, slice_get}
use Rattle.std.specs.Option.{option_map}
use Rattle.std.specs.List.{AllByRecursion}
use Rattle.dali_record.specs.declared.records.Answer.{Answer}
use Rattle.dali_record.specs.declared.records.Call.{Call}
use Rattle.dali_record.specs.declared.records.Record.{Record}
use Rattle.dali_record.specs.declared.records.Record.TheVariants.{Done}
use Rattle.dali_record.specs.Legal.{Working, is_level, txn_state}
use Rattle.dali_region.specs.declared.Hold.{Hold}
use Rattle.dali_region.specs.State.{RegionState}
use Rattle.dali_locks.specs.declared.mode.LockAnswer.TheVariants.{Wait as LockWait, Busy as LockBusy}
use Rattle.dali_locks.specs.Locks.{IsAnswer}
use Rattle.dali_att.specs.Table.{undos_at}
use Rattle.dali_runs.specs.State.{SystemState, CoreState, row_of, state_of, hold_of, lock_of}
use Rattle.dali_runs.specs.Run.{Bases, RunsOn}
use Rattle.dali_runs.specs.Keeps.{IsFree, with_system}
use Rattle.dali_runs.specs.Steps.{refused}
use Rattle.dali_runs.specs.Regions.{Latch}
use Rattle.dali_runs.specs.Courses.{Step, Operates, TakesBack, Frees, Answers, Commits, Ends, Locks, OnRegion, IsStep}
use Rattle.dali_runs.specs.Facts.Plans.{AtWork}
use Rattle.dali_runs.specs.Facts.Undos.{MayBePerformed}
use Rattle.dali_calls.specs.Steps.{call_key}
use Rattle.dali_calls.specs.declared.plan.Phase.{Phase}
use Rattle.dali_calls.specs.declared.plan.Phase.TheVariants.{Calling, Refused as GoesBack}
use Rattle.dali_calls.specs.Plans.{Planned, mode_of, IsWhole}
use Rattle.dali_calls.specs.Operating.{IsOwn}
use Rattle.dali_calls.specs.declared.single.error.StepError.{StepError}
use Rattle.dali_calls.specs.Single.Refusals.{IsRefusal, IsUnasked}
use Rattle.dali_calls.specs.Single.Stands.{IsAtRest, AtPlan}
use Rattle.dali_calls.specs.declared.single.error.CallError.{CallError}
use Rattle.dali_calls.specs.declared.single.error.CallError.TheVariants.{Wait, Busy, Refused, HalfDone}

abbrev pub is_end : Step → Bool
is_end (Answers t call a) = true
is_end (Commits t) = true
is_end (Ends t) = true
is_end x = false

abbrev pub IsOwnStep : ℕ → CoreState → Step → Type 0
IsOwnStep t c (Locks u k m) = u ≡ t
IsOwnStep t c (OnRegion r x) = IsSomeAnd (slice_get c.regions r) (IsOwn t x)
IsOwnStep t c (Operates u b) = u ≡ t
IsOwnStep t c (TakesBack u b) = u ≡ t
IsOwnStep t c (Frees p b) = p ≡ t
IsOwnStep t c (Answers u call a) = u ≡ t
IsOwnStep t c (Commits u) = u ≡ t
IsOwnStep t c (Ends u) = u ≡ t
IsOwnStep t c x = ⊥

-- ---- looks
abbrev pub Look : Type 0
Look = Option (ℕ × RegionState)

abbrev pub look_behind : CoreState → Step → Look → Look
look_behind c (OnRegion r (Latch u)) o = option_map (λ (g : RegionState). (r, g)) (slice_get c.regions r)
look_behind c x o = o

-- the look was at this region, and found it undamaged
abbrev pub IsRightOn : ℕ → Look → Type 0
IsRightOn r o = IsSomeAnd o (λ (l : ℕ × RegionState). (l.0 ≡ r) × (l.1.stray ≡ 0))

abbrev pub LooksRight : Bool → Look → Step → Type 0
LooksRight precheck o (Operates u b) = precheck ≡ true → IsRightOn b.region o
LooksRight precheck o x = ⊤

-- ---- steps, one behind another
abbrev pub LeadsFrom : Bool → ℕ → Look → List Record → CoreState → List Step → List Record → CoreState → Type 0
LeadsFrom precheck t o L c [] M d = (L ≡ M) × (c ≡ d)
LeadsFrom precheck t o L c (x ∷ xs) M d =
    (K : List Record) × (e : CoreState) × (IsStep L c x K e × IsOwnStep t c x × (is_end x ≡ false) × LooksRight precheck o x) × LeadsFrom precheck t (look_behind c x o) K e xs M d

abbrev pub Leads : Bool → ℕ → List Record → CoreState → List Step → List Record → CoreState → Type 0
Leads precheck t L c xs M d = LeadsFrom precheck t None L c xs M d

-- ---- the other transactions
abbrev pub OthersStay : SystemState → ℕ → SystemState → Type 0
OthersStay y t z = (u : ℕ) → (t == u) ≡ false → (row_of z u ≡ row_of y u) × ((k : ℕ) → lock_of z u k ≡ lock_of y u k)

abbrev pub HoldsStay : ℕ → CoreState → CoreState → Type 0
HoldsStay t c d = (u r : ℕ) (h : Hold) → (t == u) ≡ false → h.txn ≡ u → (hold_of c r ≡ Some h) ↔ (hold_of d r ≡ Some h)

pub record StandAside (t : ℕ) (L : List Record) (c : CoreState) (M : List Record) (d : CoreState) : Type 0 where
  pub sizes : d.system.sizes ≡ c.system.sizes
  pub next : c.system.next ≤ d.system.next
  pub system : OthersStay c.system t d.system
  pub holds : HoldsStay t c d
  -- a number that wasn't given yet may have become that of a solo
  pub rules : (u : ℕ) → (t == u) ≡ false → u < c.system.next → txn_state c.system.sizes u M ≡ txn_state c.system.sizes u L
  -- and one that isn't given yet has no record
  pub later : (n : ℕ) → (t == n) ≡ false → d.system.next ≤ n → txn_state c.system.sizes n M ≡ txn_state c.system.sizes n L

-- ---- a call
pub record MayCall (L : List Record) (c : CoreState) (t : ℕ) : Type 0 where
  pub working : Working
  pub at_work : AtWork c.system.sizes L t working
  pub level : is_level working ≡ true
  pub free : IsFree c t

pub record IsAnswered (precheck : Bool) (L : List Record) (c : CoreState) (t : ℕ) (call : Call) (a : Answer) (d : CoreState) : Type 0 where
  pub log : List Record
  pub mid : CoreState
  pub steps : List Step
  pub leads : Leads precheck t L c steps log mid
  pub answers : IsStep log mid (Answers t call a) (log ++ Done t call a ∷ []) d
  pub may : MayCall (log ++ Done t call a ∷ []) d t

pub record IsRefusedAt (precheck : Bool) (L : List Record) (c : CoreState) (t : ℕ) (call : Call) (phase : Phase) (cause : StepError) : Type 0 where
  pub log : List Record
  pub mid : CoreState
  pub steps : List Step
  pub leads : Leads precheck t L c steps log mid
  pub plan : Planned
  pub is_of : (plan.txn ≡ t) × (plan.call ≡ call) × (plan.phase ≡ phase)
  pub whole : IsWhole plan
  pub rest : IsAtRest mid.regions mid.system plan
  pub at : AtPlan log mid plan
  pub refused : IsRefusal precheck plan mid.regions mid.system cause

pub record IsAsBefore (L : List Record) (c : CoreState) (t : ℕ) (call : Call) (precheck : Bool) (cause : StepError) (d : CoreState) : Type 0 where
  pub refused : IsRefusedAt precheck L c t call Calling cause
  pub log : List Record
  pub steps : List Step
  pub back : Leads false t refused.log refused.mid steps log d
  pub may : MayCall log d t
  pub undos : undos_at d.system.table t ≡ undos_at c.system.table t

pub record IsHalfDone (L : List Record) (c : CoreState) (t : ℕ) (call : Call) (precheck : Bool) (cause : StepError) (d : CoreState) : Type 0 where
  -- why it was taken back
  pub first : StepError
  pub refused : IsRefusedAt precheck L c t call Calling first
  pub stuck : IsRefusedAt false refused.log refused.mid t call GoesBack cause
  -- behind it nothing was logged
  pub steps : List Step
  pub left : Leads false t stuck.log stuck.mid steps stuck.log d
  pub working : Working
  pub at_work : AtWork d.system.sizes stuck.log t working
  pub free : IsFree d t

abbrev pub Fails : Bool → CallError → List Record → CoreState → ℕ → Call → CoreState → Type 0
Fails precheck (Wait h) L c t call d = IsAnswer c.system.locks t (call_key call) (mode_of call) (LockWait h) × (d ≡ c)
Fails precheck (Busy h) L c t call d =
    IsAnswer c.system.locks t (call_key call) (mode_of call) (LockBusy h) × (d ≡ with_system c (refused c.system t (call_key call) (mode_of call) h))
Fails precheck (Refused cause) L c t call d = (IsUnasked c.system cause × (d ≡ c)) ⊎ IsAsBefore L c t call precheck cause d
Fails precheck (HalfDone cause) L c t call d = IsHalfDone L c t call precheck cause d

abbrev pub AreCovered : SystemState → ℕ → Type 0
AreCovered y t = AllByRecursion (MayBePerformed y t) (undos_at y.table t)

abbrev pub RunCovers : Type 0
RunCovers = (bases : Bases) (L : List Record) (c : CoreState) → RunsOn bases L c → (t : ℕ) → AreCovered c.system t

pub record Keeps (y : SystemState) (t : ℕ) (z : SystemState) : Type 0 where
  pub sizes : z.sizes ≡ y.sizes
  pub state : state_of z t ≡ state_of y t
  pub covered : AreCovered y t → AreCovered z t
  pub others : OthersStay y t z
