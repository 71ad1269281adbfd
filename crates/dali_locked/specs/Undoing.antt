-- What a client knows of a transaction that it acts for outside of a plan's call: that it takes it back, its own or one that it cleans up.
--     can_undo o               a transaction in this state may be taken back
--     Tends c t                the client c acts for t, whose client isn't dead, or which it has claimed
--     Stands c t Q             so it is, and Q is so of its state and of where the rules of the log have it
--     StandsFree c t Q         and no region is latched for it
--     StandsLatched c r t Q    and c has latched the region r alone for it
--     HasUndos u n             it may be taken back, and u is the last of its undos, where it has more than n
--     MayUndo b x t            the client x may take t back
--     Undoes c p               c acts for the transaction of the taking back p, which p performs the last undo of next; and no region is latched for it
--     IsUndoing c r p          so it is, but that c has latched the region r for the operation that performs it
--     IsOf t P o               the operation o, if there is one, is one of t, with a block that is so
--     IsOwn p o                and performs the next undo of p
--     BacksOff b x y z w       from the client x and the region y on to z and w: the record of an operation was refused, and its words are taken back
--     LeftOpen e A B           A where there is no such region, B where the operation isn't logged
use Rattle.std.specs.Prelude.{◌≡◌, ◌⊎◌, ℕ, ◌<◌, Bool, true, false, List, [], ◌∷◌, Option, Some, None, IfSome}
use Rattle.dali_record.specs.declared.operations.Block.{Block}
use Rattle.dali_record.specs.declared.operations.Pending.{Pending}
use Rattle.dali_record.specs.Legal.{TxnState, Active, Working, txn_state}
use Rattle.dali_region.specs.State.{taken_back}
use Rattle.dali_att.specs.declared.state.State.{State}
use Rattle.dali_att.specs.declared.state.State.TheVariants.{Live, Cleaning}
use Rattle.dali_runs.specs.Keeps.{IsFree}
use Rattle.dali_runs.specs.Regions.{is_alive}
use Rattle.dali_system.specs.declared.operation.Operation.{Operation}
use Rattle.dali_system.specs.declared.take_back.TakeBack.{TakeBack}
use Rattle.dali_system.specs.TakenBack.{next_undo, IsUndoBlock}
use Rattle.dali_calls.specs.Plans.{Planned}
use Rattle.dali_notes.specs.History.{Added, AllMay}
use Rattle.dali_concurrent.specs.Entries.{live_by, actor_by}
use Rattle.dali_concurrent.specs.Rules.{Outset, count_of, log_by, state_by, dead_by}
use Rattle.dali_concurrent.specs.Told.{History, plain, core_told}
use Rattle.dali_locked.specs.declared.locks.RegionError.{RegionError}
use Rattle.dali_locked.specs.declared.locks.RegionError.TheVariants.{NoRegion, Latch, Logged}
use Rattle.dali_locked.specs.Begun.{Begun, may_add}
use Rattle.dali_locked.specs.Sights.{ClientSight, RegionSight, Knows, client_sight, region_sight}
use Rattle.dali_locked.specs.SystemSteps.{Driving, MayGiveBack, Resting}
use Rattle.dali_locked.specs.Regions.{freed_item}

abbrev pub can_undo : Option State → Bool
can_undo (Some Live) = true
can_undo (Some (Cleaning latched)) = true
can_undo o = false

pub record Tends (c t : ℕ) (o : Outset) (T : History) : Type 0 where
  pub actor : actor_by t (plain T) ≡ Some c
  pub alive : is_alive (state_by o (plain T) t) ≡ true

-- ---- where a transaction stands
pub record Stands (c t : ℕ) (Q : Option State → Option TxnState → Type 0) (o : Outset) (T : History) : Type 0 where
  pub tends : Tends c t o T
  pub at : Q (state_by o (plain T) t) (txn_state o.old.system.sizes t (log_by o (plain T)))

pub record StandsFree (c t : ℕ) (Q : Option State → Option TxnState → Type 0) (o : Outset) (T : History) : Type 0 where
  pub stands : Stands c t Q o T
  pub free : IsFree (core_told o T) t

pub record StandsLatched (c r t : ℕ) (Q : Option State → Option TxnState → Type 0) (o : Outset) (T : History) : Type 0 where
  pub stands : Stands c t Q o T
  -- it has latched no other region, and none is left latched for it
  pub only : (q d : ℕ) → live_by q (plain T) ≡ Some (t, d) → r ≡ q
  pub none : (q : ℕ) → q < count_of o → dead_by o q (plain T) ≡ Some t → ⊥

-- ---- a taking back
pub record HasUndos (undo : Option Pending) (floor : ℕ) (state : Option State) (rules : Option TxnState) : Type 0 where
  pub able : can_undo state ≡ true
  pub working : Working
  pub at_work : rules ≡ Some (Active working)
  pub next : undo ≡ next_undo working.undos floor

abbrev pub Undoes : ℕ → TakeBack → Outset → History → Type 0
Undoes c p o T = StandsFree c p.txn (HasUndos p.next p.down_to) o T

abbrev pub IsUndoing : ℕ → ℕ → TakeBack → Outset → History → Type 0
IsUndoing c r p o T = StandsLatched c r p.txn (HasUndos p.next p.down_to) o T

-- its own, between two calls or in one, or one that it cleans up, of which no region has a hold
abbrev pub MayUndo : Begun → ClientSight → ℕ → Type 0
MayUndo b x t =
    Knows b (Resting x.id t) x
    ⊎ ((p : Planned) × (p.txn ≡ t) × Knows b (Driving x.id p) x)
    ⊎ Knows b (MayGiveBack x.id t) x

-- ---- its operation
abbrev pub IsOf : ℕ → (Block → Type 0) → Option Operation → Type 0
IsOf t P operation = IfSome operation (λ o. (o.txn ≡ t) × P o.block)

abbrev pub IsOwn : TakeBack → Option Operation → Type 0
IsOwn p operation = IsOf p.txn (IsUndoBlock p.next) operation

-- its record was refused
pub record BacksOff (b : Begun) (x : ClientSight) (y : RegionSight) (z : ClientSight) (w : RegionSight) : Type 0 where
  pub region : w.region ≡ taken_back y.region
  pub number : w.number ≡ y.number
  pub added : Added (client_sight b x ∷ region_sight b y ∷ []) (freed_item x.id y.number w.region) z.seen
  pub id : z.id ≡ x.id
  pub seen : w.seen ≡ z.seen
  pub all : AllMay (may_add b) z.seen

abbrev pub LeftOpen : RegionError → Type 0 → Type 0 → Type 0
LeftOpen NoRegion A B = A
LeftOpen (Latch cause) A B = B
LeftOpen (Logged cause) A B = B
