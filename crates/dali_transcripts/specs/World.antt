-- What a transcript is held against: the core that a round began with, the one that it leaves, and all that its clients did, in order.
--     Deed                     what a client does beside what it says
--     World                    the world of a round, which is still under way or done
--     logged_by xs             the records that were logged in these deeds
--     log_of w, log_at w i     the log;  the log before the deed at place i
--     IsLogged w n x           record n is x
--     IsFlushed, IsLost w n    record n is flushed;  it never will be, since the store has failed
--     IsUncommitted w t n      record n ends t, and no Commit of t stands before it
--     HasDone w c n x          the client c did this deed when n records stood; and at which place of the round
--     state_after, state_at w i t     the state of t behind the round's deeds;  before the deed at place i
--     HasDiedBy w t n          the client of t died, in this round or before, when at most n records stood
--     HasEndedBy w t n         t has ended before record n, or its client died by then
--     has_failed b xs          a store call has failed behind these deeds, or had before them
--     claimer_at w i t         who claimed t last, before the deed at place i
--     HasGot xs c t k m        among these deeds the client c was granted the lock of the key k in the mode m, for t
--     lock_after w xs t k, lock_at w i t k     the lock of the key k that t has by these deeds, which it keeps until it ends;  by those before place i
--     IsNoWeaker held o        the lock that is held is the lock o or a stronger one
--     failed_at w i            the first region of the epoch's failed audit before the deed at place i, if one has failed
--     stop_at w i              why the engine is stopped before the deed at place i, if it is
--     stray_after r s xs       the exclusive-or of the stray writes to region r behind these deeds, which was s before them
--     poked_after r p xs       whether region r was poked by then, which it was or wasn't before them
--     refused_by xs            the refusals of requests among these deeds
--     under_way xs             whose checkpoint is under way behind these deeds of a round
--     Grows v w                the world goes on from v to w
use Rattle.std.specs.Prelude.{◌≡◌, ℕ, ◌<◌, ◌≤◌, ◌⊎◌, Bool, true, false, List, ◌++◌, if◌then◌else◌, ◌==◌, ◌&&◌, Option, Some, None, Contains, bit_xor, filter_map, fold, length, take, slice_get}
use Rattle.dali_record.specs.declared.records.Record.{Record}
use Rattle.dali_record.specs.declared.records.Record.TheVariants.{Begin, Commit, Ended}
use Rattle.dali_record.specs.Epochs.{last_epoch}
use Rattle.dali_locks.specs.declared.mode.Mode.{Mode}
use Rattle.dali_locks.specs.Locks.{stronger_mode}
use Rattle.dali_att.specs.declared.state.State.{State}
use Rattle.dali_att.specs.declared.state.State.TheVariants.{Live, Dead, Cleaning, Committed}
use Rattle.dali_runs.specs.declared.causes.Cause.{Cause}
use Rattle.dali_runs.specs.declared.causes.Cause.TheVariants.{Damage, Store}
use Rattle.dali_runs.specs.declared.refusals.Refusal.{Refusal}
use Rattle.dali_runs.specs.Run.{failed_first}
use Rattle.dali_runs.specs.State.{CoreState, state_of, lock_of, stable}
use Rattle.dali_transcripts.specs.Words.{Why, StoreFailed}

pub data Deed : Type 0 where
  Logs : (record_is : Record) → Deed
  -- a word of the region is changed by the mask
  Strays : (region word mask : ℕ) → Deed
  -- its client dies in an operation of this transaction, on this region
  DiesOn : (txn region : ℕ) → Deed
  -- it claims a dead transaction; it gives the claim back, where the region of the operation is latched still, or none is
  Claims : (txn : ℕ) → Deed
  GivesBack : (txn : ℕ) → (latched : Option ℕ) → Deed
  -- its request is granted: the transaction has the lock of the key, in this mode or a stronger one
  GetsLock : (txn key : ℕ) → (mode : Mode) → Deed
  -- it is refused: it gives way to the holder, or finds that its client is dead
  Yields : (refusal : Refusal) → Deed
  FindsDead : (refusal : Refusal) → Deed
  -- its checkpoint starts, moves the anchor to this number, and ends
  StartsCheckpoint : Deed
  MovesAnchor : (number : ℕ) → Deed
  EndsCheckpoint : Deed
  -- it is refused; StoreFailed: a store call of its fails
  Meets : (why : Why) → Deed

-- a deed with the client that did it
abbrev pub Happening : Type 0
Happening = Deed × ℕ

pub record World : Type 0 where
  -- the round began with this core, over this log
  pub old : CoreState
  pub before : List Record
  -- whether a latch compares a region's words with its codeword
  pub precheck : Bool
  -- what the clients have done so far, in order, and the core that is left
  pub happened : List Happening
  pub core : CoreState

abbrev pub record_of : Happening → Option Record
record_of (Logs x, c) = Some x
record_of x = None

abbrev pub logged_by : List Happening → List Record
logged_by xs = filter_map record_of xs

abbrev pub log_of : World → List Record
log_of w = w.before ++ logged_by w.happened

abbrev pub log_at : World → ℕ → List Record
log_at w i = w.before ++ logged_by (take i w.happened)

abbrev pub IsLogged : World → ℕ → Record → Type 0
IsLogged w n x = slice_get (log_of w) n ≡ Some x

abbrev pub IsFlushed : World → ℕ → Type 0
IsFlushed w n = n < stable w.core

abbrev pub IsLost : World → ℕ → Type 0
IsLost w n = (w.core.vault.stopped ≡ true) × (stable w.core ≤ n)

abbrev pub IsUncommitted : World → ℕ → ℕ → Type 0
IsUncommitted w t n = IsLogged w n (Ended t) × ((k : ℕ) → k < n → IsLogged w k (Commit t) → ⊥)

pub record HasDone (w : World) (c n : ℕ) (x : Deed) : Type 0 where
  pub place : ℕ
  pub there : slice_get w.happened place ≡ Some (x, c)
  pub number : length (log_at w place) ≡ n

-- ---- the table, as the deeds leave it
abbrev pub claimed : Option State → Option State
claimed (Some (Dead latched)) = Some (Cleaning latched)
claimed o = o

abbrev pub given_back : Option ℕ → Option State → Option State
given_back latched (Some (Cleaning was)) = Some (Dead latched)
given_back latched o = o

abbrev pub state_step : ℕ → Option State → Happening → Option State
state_step t o (Logs (Begin u), c) = if u == t then Some Live else o
state_step t o (Logs (Commit u), c) = if u == t then Some Committed else o
state_step t o (Logs (Ended u), c) = if u == t then None else o
state_step t o (DiesOn u r, c) = if u == t then Some (Dead (Some r)) else o
state_step t o (Claims u, c) = if u == t then claimed o else o
state_step t o (GivesBack u latched, c) = if u == t then given_back latched o else o
state_step t o x = o

abbrev pub state_after : World → List Happening → ℕ → Option State
state_after w xs t = fold (state_step t) (state_of w.old.system t) xs

abbrev pub state_at : World → ℕ → ℕ → Option State
state_at w i t = state_after w (take i w.happened) t

abbrev pub is_dead_in : Option State → Bool
is_dead_in (Some (Dead latched)) = true
is_dead_in o = false

abbrev pub is_claimed_in : Option State → Bool
is_claimed_in (Some (Cleaning latched)) = true
is_claimed_in o = false

abbrev pub claimer_step : ℕ → Option ℕ → Happening → Option ℕ
claimer_step t o (Claims u, c) = if u == t then Some c else o
claimer_step t o x = o

abbrev pub claimer_at : World → ℕ → ℕ → Option ℕ
claimer_at w i t = fold (claimer_step t) None (take i w.happened)

abbrev pub WasDead : World → ℕ → Type 0
WasDead w t = is_dead_in (state_of w.old.system t) ≡ true

abbrev pub HasDiedBy : World → ℕ → ℕ → Type 0
HasDiedBy w t n = WasDead w t ⊎ ((c r m : ℕ) × HasDone w c m (DiesOn t r) × (m ≤ n))

abbrev pub HasEndedBy : World → ℕ → ℕ → Type 0
HasEndedBy w t n = ((k : ℕ) × (k < n) × IsLogged w k (Ended t)) ⊎ HasDiedBy w t n

-- ---- locks, as the deeds tell them
abbrev pub HasGot : List Happening → (client txn key : ℕ) → Mode → Type 0
HasGot xs c t k m = Contains xs (GetsLock t k m, c)

abbrev pub lock_step : (txn key : ℕ) → Option Mode → Happening → Option Mode
lock_step t k o (GetsLock u j m, c) = if (u == t) && (j == k) then Some (stronger_mode o m) else o
lock_step t k o (Logs (Ended u), c) = if u == t then None else o
lock_step t k o x = o

abbrev pub lock_after : World → List Happening → (txn key : ℕ) → Option Mode
lock_after w xs t k = fold (lock_step t k) (lock_of w.old.system t k) xs

abbrev pub lock_at : World → (place txn key : ℕ) → Option Mode
lock_at w i t k = lock_after w (take i w.happened) t k

abbrev pub IsNoWeaker : Option Mode → Option Mode → Type 0
IsNoWeaker held None = Unit {0}
IsNoWeaker held (Some m) = held ≡ Some (stronger_mode held m)

-- ---- the stop, as the deeds leave it
abbrev pub failing : Bool → Happening → Bool
failing b (Meets StoreFailed, c) = true
failing b x = b

abbrev pub has_failed : Bool → List Happening → Bool
has_failed b xs = fold failing b xs

-- no audit can fail once the store has stopped the engine
abbrev pub cause_of : Option ℕ → Bool → Option Cause
cause_of (Some r) failed = Some (Damage r)
cause_of None true = Some Store
cause_of None false = None

abbrev pub failed_at : World → ℕ → Option ℕ
failed_at w i = failed_first (last_epoch (log_at w i)).records

-- the first region of the epoch's failed audit, or the store
abbrev pub stop_at : World → ℕ → Option Cause
stop_at w i = cause_of (failed_at w i) (has_failed w.old.vault.stopped (take i w.happened))

-- ---- what else deeds leave
abbrev pub stray_step : ℕ → ℕ → Happening → ℕ
stray_step r s (Strays q word mask, c) = if q == r then bit_xor s mask else s
stray_step r s x = s

abbrev pub stray_after : ℕ → ℕ → List Happening → ℕ
stray_after r s xs = fold (stray_step r) s xs

abbrev pub poked_step : ℕ → Bool → Happening → Bool
poked_step r p (Strays q word mask, c) = if q == r then true else p
poked_step r p x = p

abbrev pub poked_after : ℕ → Bool → List Happening → Bool
poked_after r p xs = fold (poked_step r) p xs

abbrev pub refusal_of : Happening → Option Refusal
refusal_of (Yields f, c) = Some f
refusal_of (FindsDead f, c) = Some f
refusal_of x = None

abbrev pub refused_by : List Happening → List Refusal
refused_by xs = filter_map refusal_of xs

abbrev pub span_step : Option ℕ → Happening → Option ℕ
span_step o (StartsCheckpoint, c) = Some c
span_step o (EndsCheckpoint, c) = None
span_step o x = o

-- no checkpoint is under way where a round begins
abbrev pub under_way : List Happening → Option ℕ
under_way xs = fold span_step None xs

-- ---- a world that goes on
pub record Grows (v w : World) : Type 0 where
  pub old : w.old ≡ v.old
  pub before : w.before ≡ v.before
  pub precheck : w.precheck ≡ v.precheck
  pub more : List Happening
  pub happened : w.happened ≡ v.happened ++ more
  pub sizes : w.core.system.sizes ≡ v.core.system.sizes
  pub limit : w.core.system.limit ≡ v.core.system.limit
  pub flushed : stable v.core ≤ stable w.core
  pub failed : v.core.vault.stopped ≡ true → w.core.vault.stopped ≡ true
  -- nothing is flushed once the store has failed
  pub sealed : v.core.vault.stopped ≡ true → stable w.core ≡ stable v.core
  pub stopped : (cause : Cause) → v.core.system.stop ≡ Some cause → w.core.system.stop ≡ Some cause
  pub refusals : (f : Refusal) → Contains v.core.system.refusals f → Contains w.core.system.refusals f
