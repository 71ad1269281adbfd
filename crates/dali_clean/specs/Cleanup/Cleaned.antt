-- The clean-up of a dead transaction.
--     Cleaned                  what contracts see of it: whether it has its claim, the region that the dead client's operation still latches, the
--                              undo that is performed next, and the operation that performs it, while it is open
--     want_of c                what it needs next
--     IsLeft t g               the region has the hold with which the client of t died
--     MayLatch c g             what a latch asks: the claim, and a hold that its dead client left, or an undo to be performed
--     clean_answer ..          what a latch answers
--     MayCommit c g y          what a commit asks: the operation is open on g, the transaction is claimed, and the undo is the last one of it still
--     IsWhole c                what is true of every clean-up
use Rattle.std.specs.Prelude.{◌≡◌, ℕ, Bool, true, false, ⊤, Option, Some, None, IsSome, IsSomeAnd, Result, Ok}
use Rattle.dali_record.specs.declared.operations.Pending.{Pending}
use Rattle.dali_record.specs.Spelling.{IsUndo}
use Rattle.dali_region.specs.State.{RegionState}
use Rattle.dali_region.specs.Answers.{latch_answer}
use Rattle.dali_region.specs.declared.LatchError.{LatchError}
use Rattle.dali_att.specs.Table.{undos_at}
use Rattle.dali_runs.specs.State.{SystemState, state_of}
use Rattle.dali_runs.specs.Regions.{IsOpen}
use Rattle.dali_system.specs.TakenBack.{IsUndoBlock, next_undo}
use Rattle.dali_system.specs.declared.want.Want.{Want}
use Rattle.dali_system.specs.declared.want.Want.TheVariants.{Region, Done, Nothing}
use Rattle.dali_system.specs.declared.operation.Operation.{Operation}
use Rattle.dali_calls.specs.TakingBack.{is_claimed}

pub record Cleaned : Type 0 where
  pub txn : ℕ
  -- a refusal gives the claim back
  pub claimed : Bool
  pub latched : Option ℕ
  pub next : Option Pending
  pub operation : Option Operation

abbrev pub want_in : Bool → Option ℕ → Option Pending → Want
want_in false latched o = Nothing
want_in true (Some r) o = Region r
want_in true None (Some u) = Region u.region
want_in true None None = Done

abbrev pub want_of : Cleaned → Want
want_of c = want_in c.claimed c.latched c.next

abbrev pub IsLeft : ℕ → RegionState → Type 0
IsLeft t g = IsSomeAnd g.hold (λ h. (h.dead ≡ true) × (h.txn ≡ t))

abbrev pub may_latch : ℕ → Option ℕ → Option Pending → RegionState → Type 0
may_latch t (Some r) o g = IsLeft t g
may_latch t None o g = IsSome o

abbrev pub MayLatch : Cleaned → RegionState → Type 0
MayLatch c g = (c.claimed ≡ true) × may_latch c.txn c.latched c.next g

abbrev pub clean_answer : Option ℕ → Bool → RegionState → Result (Unit {0}) LatchError
clean_answer (Some r) precheck g = Ok tt
clean_answer None precheck g = latch_answer precheck g

pub record MayCommit (c : Cleaned) (g : RegionState) (y : SystemState) : Type 0 where
  pub written : IsSomeAnd c.operation (λ o. IsOpen g o.txn o.block)
  pub claimed : IsSomeAnd (state_of y c.txn) is_claimed
  pub last : c.next ≡ next_undo (undos_at y.table c.txn) 0

-- ---- what is true of every clean-up
abbrev pub AreUndone : Option Pending → Type 0
AreUndone None = ⊤
AreUndone (Some u) = IsUndo u.undo

abbrev pub IsOf : Cleaned → Option Operation → Type 0
IsOf c None = ⊤
IsOf c (Some o) = (o.txn ≡ c.txn) × IsUndoBlock c.next o.block × (c.latched ≡ None)

pub record IsWhole (c : Cleaned) : Type 0 where
  pub undoes : AreUndone c.next
  pub operation : IsOf c c.operation
