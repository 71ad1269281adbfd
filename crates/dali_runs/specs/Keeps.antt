-- When a step is taken, and that the core then is a run again.
--     HasRoom y x              the engine runs, and the record x has room
--     IsNext s L t x           the rules allow x to the transaction t
--     may_log st x             a transaction in this state may log x
--     MayAdd L y t x           the rules allow x to t, and its state does
--     MayLogBlock L c x owner b g      x, with the block b of this owner, may follow
--     moves_to old new         the state of a transaction may change so, without a record
--     Latches c t dead o       the region of each hold of t that is dead, or isn't, is o
--     IsFree c t               no region has a hold of t
--     MayDie, MayClaim, MayGiveBack, MayRecover      when a client dies, its transaction is claimed, the claim is given back, and the
--                              operation in which it died is taken back
--     died c t o               the core after the death of the client of t, whose operation latches the region o, if there is one
--     BeginKeeps, OpKeeps ..   each step keeps a run
use Rattle.std.specs.Prelude.{◌≡◌, ◌==◌, ℕ, ◌+◌, ◌≤◌, true, false, List, [], ◌∷◌, ◌++◌, Bool, Option, Some, None, IsSome, slice_get, slice_set}
use Rattle.std.specs.Option.{option_map_or}
use Rattle.dali_geometry.specs.Sizes.{Sizes}
use Rattle.dali_record.specs.declared.operations.Block.{Block}
use Rattle.dali_record.specs.declared.records.Call.{Call}
use Rattle.dali_record.specs.declared.records.Answer.{Answer}
use Rattle.dali_record.specs.declared.records.Record.{Record}
use Rattle.dali_record.specs.declared.records.Record.TheVariants.{Begin, Forward, Done, Commit, Ended, Solo, Back}
use Rattle.dali_record.specs.Spelling.{record_length, CanBeSpelled}
use Rattle.dali_record.specs.Legal.{txn_state, on_kind}
use Rattle.dali_region.specs.declared.Hold.{Hold}
use Rattle.dali_region.specs.State.{RegionState, touched, taken_back, dead}
use Rattle.dali_locks.specs.declared.mode.Mode.{Mode}
use Rattle.dali_locks.specs.declared.mode.LockAnswer.TheVariants.{Granted, Busy}
use Rattle.dali_locks.specs.Locks.{IsAnswer}
use Rattle.dali_att.specs.declared.state.State.{State}
use Rattle.dali_att.specs.declared.state.State.TheVariants.{Live, Dead, Cleaning, Committed}
use Rattle.dali_runs.specs.State.{SystemState, CoreState, row_of, state_of, hold_of}
use Rattle.dali_runs.specs.Run.{Bases, RunsOn, holds}
use Rattle.dali_runs.specs.Steps.{begun, op_logged, back_logged, solo_logged, done_logged, commit_logged, ended_logged, granted, refused, store_stopped, in_state, in_checkpoint}
use Rattle.dali_runs.specs.Regions.{IsOpen, RegionStep, region_after, MayChange}

-- ---- the core with a part changed
abbrev pub with_system : CoreState → SystemState → CoreState
with_system c y = record c { system = y }

abbrev pub with_region : CoreState → ℕ → RegionState → CoreState
with_region c r g = record c { regions = slice_set c.regions r g }

-- an operation's record is logged, and its region touched
abbrev pub with_touched : CoreState → SystemState → ℕ → RegionState → CoreState
with_touched c y r g = record { regions = slice_set c.regions r (touched g); system = y; vault = c.vault }

-- ---- steps that log a record of a transaction
-- the engine runs, and the record has room
pub record HasRoom (y : SystemState) (x : Record) : Type 0 where
  pub runs : y.stop ≡ None
  pub room : y.end + record_length x ≤ y.limit

-- the rules allow the record to the transaction: the log with it keeps them
abbrev pub IsNext : Sizes → List Record → ℕ → Record → Type 0
IsNext s L t x = IsSome (txn_state s t (L ++ x ∷ []))

-- ---- who may log
-- the client of a transaction that isn't committed; who claimed it takes it back and ends it; once it is committed, what it removed is freed
abbrev pub may_log : State → Record → Bool
may_log Live (Forward t b) = true
may_log Live (Done t k a) = true
may_log Live (Commit t) = true
may_log Live (Back t b) = true
may_log Live (Ended t) = true
may_log (Cleaning latched) (Back t b) = true
may_log (Cleaning latched) (Ended t) = true
may_log Committed (Solo t p b) = true
may_log Committed (Ended t) = true
may_log _ _ = false

abbrev pub may_log_in : Option State → Record → Bool
may_log_in None x = false
may_log_in (Some st) x = may_log st x

pub record MayAdd (L : List Record) (y : SystemState) (t : ℕ) (x : Record) : Type 0 where
  pub next : IsNext y.sizes L t x
  pub by : may_log_in (state_of y t) x ≡ true

-- the record x with the block b of this owner may follow: the block is the open operation of its region g
pub record MayLogBlock (L : List Record) (c : CoreState) (x : Record) (owner : ℕ) (b : Block) (g : RegionState) : Type 0 where
  pub runs : c.system.stop ≡ None
  pub spelled : CanBeSpelled x
  pub next : IsNext c.system.sizes L owner x
  pub by : may_log_in (state_of c.system owner) x ≡ true
  pub kind : on_kind c.system.sizes b.region b.op ≡ true
  pub locked : holds c.system owner b ≡ true
  pub at : slice_get c.regions b.region ≡ Some g
  pub is_open : IsOpen g owner b

abbrev pub BeginKeeps : Type 0
BeginKeeps =
    (bases : Bases) (L : List Record) (c : CoreState) → RunsOn bases L c
    → HasRoom c.system (Begin c.system.next)
    → RunsOn bases (L ++ Begin c.system.next ∷ []) (with_system c (begun c.system))

abbrev pub OpKeeps : Type 0
OpKeeps =
    (bases : Bases) (L : List Record) (c : CoreState) (t : ℕ) (b : Block) (g : RegionState) → RunsOn bases L c
    → HasRoom c.system (Forward t b) → MayLogBlock L c (Forward t b) t b g
    → RunsOn bases (L ++ Forward t b ∷ []) (with_touched c (op_logged c.system t b) b.region g)

abbrev pub BackKeeps : Type 0
BackKeeps =
    (bases : Bases) (L : List Record) (c : CoreState) (t : ℕ) (b : Block) (g : RegionState) → RunsOn bases L c
    → MayLogBlock L c (Back t b) t b g
    → RunsOn bases (L ++ Back t b ∷ []) (with_touched c (back_logged c.system t b) b.region g)

abbrev pub SoloKeeps : Type 0
SoloKeeps =
    (bases : Bases) (L : List Record) (c : CoreState) (p : ℕ) (b : Block) (g : RegionState) → RunsOn bases L c
    → MayLogBlock L c (Solo c.system.next p b) p b g
    → RunsOn bases (L ++ Solo c.system.next p b ∷ []) (with_touched c (solo_logged c.system p b) b.region g)

abbrev pub DoneKeeps : Type 0
DoneKeeps =
    (bases : Bases) (L : List Record) (c : CoreState) (t : ℕ) (k : Call) (a : Answer) → RunsOn bases L c
    → HasRoom c.system (Done t k a) → CanBeSpelled (Done t k a) → IsNext c.system.sizes L t (Done t k a)
    → RunsOn bases (L ++ Done t k a ∷ []) (with_system c (done_logged c.system t k a))

abbrev pub CommitKeeps : Type 0
CommitKeeps =
    (bases : Bases) (L : List Record) (c : CoreState) (t : ℕ) → RunsOn bases L c
    → c.system.stop ≡ None → IsNext c.system.sizes L t (Commit t)
    → RunsOn bases (L ++ Commit t ∷ []) (with_system c (commit_logged c.system t))

abbrev pub EndedKeeps : Type 0
EndedKeeps =
    (bases : Bases) (L : List Record) (c : CoreState) (t : ℕ) → RunsOn bases L c
    → c.system.stop ≡ None → IsNext c.system.sizes L t (Ended t)
    → RunsOn bases (L ++ Ended t ∷ []) (with_system c (ended_logged c.system t))

-- ---- steps that log nothing
-- the lock table answers Granted to a transaction of the system's table
abbrev pub GrantKeeps : Type 0
GrantKeeps =
    (bases : Bases) (L : List Record) (c : CoreState) (t k : ℕ) (m : Mode) → RunsOn bases L c
    → IsSome (row_of c.system t) → IsAnswer c.system.locks t k m Granted
    → RunsOn bases L (with_system c (granted c.system t k m))

-- it answers Busy to one, and names an older holder
abbrev pub RefuseKeeps : Type 0
RefuseKeeps =
    (bases : Bases) (L : List Record) (c : CoreState) (t k h : ℕ) (m : Mode) → RunsOn bases L c
    → IsSome (row_of c.system t) → IsAnswer c.system.locks t k m (Busy h)
    → RunsOn bases L (with_system c (refused c.system t k m h))

abbrev pub RegionKeeps : Type 0
RegionKeeps =
    (bases : Bases) (L : List Record) (c : CoreState) (r : ℕ) (g : RegionState) (x : RegionStep) → RunsOn bases L c
    → slice_get c.regions r ≡ Some g → MayChange x g
    → RunsOn bases L (with_region c r (region_after x g))

abbrev pub StopKeeps : Type 0
StopKeeps =
    (bases : Bases) (L : List Record) (c : CoreState) → RunsOn bases L c
    → c.vault.stopped ≡ true
    → RunsOn bases L (with_system c (store_stopped c.system))

-- its client dies; it is claimed, and so being cleaned up; it is dead again, where its clean-up is refused and the claim given back
abbrev pub moves_to : State → State → Bool
moves_to Live (Dead latched) = true
moves_to (Dead latched) (Cleaning left) = true
moves_to (Cleaning latched) (Dead left) = true
moves_to _ _ = false

abbrev pub StateKeeps : Type 0
StateKeeps =
    (bases : Bases) (L : List Record) (c : CoreState) (t : ℕ) (old new : State) → RunsOn bases L c
    → state_of c.system t ≡ Some old → moves_to old new ≡ true
    → RunsOn bases L (with_system c (in_state c.system t new))

-- ---- the death of a client, and what follows it
-- each hold of t that is dead, or each one that isn't, latches the region o
pub record Latches (c : CoreState) (t : ℕ) (dead : Bool) (o : Option ℕ) : Type 0 where
  pub held : (r : ℕ) → o ≡ Some r → (h : Hold) × (hold_of c r ≡ Some h) × (h.txn ≡ t) × (h.dead ≡ dead)
  pub only : (r : ℕ) (h : Hold) → hold_of c r ≡ Some h → h.txn ≡ t → h.dead ≡ dead → o ≡ Some r

abbrev pub IsFree : CoreState → ℕ → Type 0
IsFree c t = (r : ℕ) (h : Hold) → hold_of c r ≡ Some h → (h.txn == t) ≡ false

-- the client of t dies: in an operation, whose region is o, or in none
pub record MayDie (c : CoreState) (t : ℕ) (o : Option ℕ) : Type 0 where
  pub lives : state_of c.system t ≡ Some Live
  pub latched : Latches c t false o

abbrev pub dead_in : List RegionState → Option ℕ → List RegionState
dead_in gs None = gs
dead_in gs (Some r) = option_map_or (λ (g : RegionState). slice_set gs r (dead g)) (slice_get gs r) gs

-- the hold is dead, and the row keeps its region
abbrev pub died : CoreState → ℕ → Option ℕ → CoreState
died c t o = record { regions = dead_in c.regions o; system = in_state c.system t (Dead o); vault = c.vault }

abbrev pub DeathKeeps : Type 0
DeathKeeps =
    (bases : Bases) (L : List Record) (c : CoreState) (t : ℕ) (o : Option ℕ) → RunsOn bases L c
    → MayDie c t o
    → RunsOn bases L (died c t o)

-- the row tells who claims it which region is still latched, and keeps it
abbrev pub MayClaim : CoreState → ℕ → Option ℕ → Type 0
MayClaim c t o = state_of c.system t ≡ Some (Dead o)

-- o is the region that is still latched: the open operation may have been taken back since the claim; no operation of the clean-up is open
pub record MayGiveBack (c : CoreState) (t : ℕ) (o : Option ℕ) : Type 0 where
  pub was : Option ℕ
  pub claimed : state_of c.system t ≡ Some (Cleaning was)
  pub left : Latches c t true o
  pub idle : Latches c t false None

-- who claimed the transaction takes back the operation in which its client died
pub record MayRecover (c : CoreState) (g : RegionState) : Type 0 where
  pub hold : Hold
  pub at : g.hold ≡ Some hold
  pub dead : hold.dead ≡ true
  pub latched : Option ℕ
  pub claimed : state_of c.system hold.txn ≡ Some (Cleaning latched)

abbrev pub RecoverKeeps : Type 0
RecoverKeeps =
    (bases : Bases) (L : List Record) (c : CoreState) (r : ℕ) (g : RegionState) → RunsOn bases L c
    → slice_get c.regions r ≡ Some g → MayRecover c g
    → RunsOn bases L (with_region c r (taken_back g))

abbrev pub CheckpointFlagKeeps : Type 0
CheckpointFlagKeeps = (bases : Bases) (L : List Record) (c : CoreState) (b : Bool) → RunsOn bases L c → RunsOn bases L (with_system c (in_checkpoint c.system b))
