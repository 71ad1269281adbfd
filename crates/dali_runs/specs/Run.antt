-- A core that a run of steps leaves: each part of it is a function of the log L, or related to it.
--     LogRun s L                        the log is one of these sizes, legal and lock-legal, and its records can be spelled
--     CountRun s L y                    the system's counts are those of the log
--     TableRun s L table                each transaction's row is what the rules keep for it
--     LockRun s L y                     a block's owner holds its key until it has ended
--     StopRun s L y v                   the cause of the stop
--     RegionRun base e r g              touches, soundness and settled words of region r
--     only F, no_image                  this crash image alone, and none
--     VaultRun leave L n v              what crash images hold of the log, of which n records are flushed
--     RunsOn bases L c                  all of these but the last
--     IsRun bases before leave c        all of these, of the log that the system has
use Rattle.std.specs.Prelude.{◌≡◌, ℕ, ◌+◌, ◌-◌, ◌*◌, ◌^◌, ◌<◌, ◌≤◌, Bool, true, false, not, ◌⊎◌, List, [], ◌∷◌, if◌then◌else◌, ◌==◌, Option, Some, None, IsSome, is_some, IfSome, fold, take, length, sum_by, slice_get, flat_map}
use Rattle.std.specs.FinMap as map
use Rattle.dali_geometry.specs.Sizes.{Sizes}
use Rattle.dali_geometry.specs.Places.{regions}
use Rattle.dali_record.specs.declared.operations.Block.{Block}
use Rattle.dali_record.specs.declared.operations.Pending.{Pending}
use Rattle.dali_record.specs.declared.records.Record.{Record}
use Rattle.dali_record.specs.declared.records.Record.TheVariants.{Format, AuditFail, Ended}
use Rattle.dali_record.specs.Blocks.{changes_item}
use Rattle.dali_record.specs.Log.{Touch, touch_of, touch_at}
use Rattle.dali_record.specs.Epochs.{Epoch, last_epoch, next_number, clean_place}
use Rattle.dali_record.specs.Damage.{any_touch}
use Rattle.dali_record.specs.Spelling.{CanBeSpelled, record_length}
use Rattle.dali_record.specs.Locks.{EndedBetween, IsLockLegal}
use Rattle.dali_record.specs.Settled.{settled, IsSoundAt}
use Rattle.dali_record.specs.Legal.{TxnState, Unbegun, Active, Committed as Ending, Over, txn_state, Rules, rules_state, IsLegalFor}
use Rattle.dali_record.specs.Files.{Files, batch_length}
use Rattle.dali_region.specs.State.{RegionState, IsProtected}
use Rattle.dali_locks.specs.declared.mode.Mode.{Mode}
use Rattle.dali_locks.specs.declared.mode.Mode.TheVariants.{Shared, Exclusive}
use Rattle.dali_locks.specs.Locks.{Locks, both_shared, IsConflict}
use Rattle.dali_att.specs.declared.state.State.{State}
use Rattle.dali_att.specs.declared.state.State.TheVariants.{Committed}
use Rattle.dali_att.specs.Table.{Table}
use Rattle.dali_runs.specs.declared.refusals.Refusal.{Refusal}
use Rattle.dali_runs.specs.declared.causes.Cause.{Cause}
use Rattle.dali_runs.specs.declared.causes.Cause.TheVariants.{Damage, Store}
use Rattle.dali_runs.specs.State.{TxnRow, SystemState, VaultState, CoreState, row_of, lock_of, taken_to, stable, log_after}

-- ---- the log
pub record LogRun (s : Sizes) (L : List Record) : Type 0 where
  pub format : slice_get L 0 ≡ Some (Format s.index s.heap)
  pub spelled : (i : ℕ) (r : Record) → slice_get L i ≡ Some r → CanBeSpelled r
  pub legal : IsLegalFor s L
  pub locks : IsLockLegal L

-- ---- counts
pub record CountRun (s : Sizes) (L : List Record) (y : SystemState) : Type 0 where
  pub now : Rules
  pub rules : rules_state s L ≡ Some now
  pub some : (now.count == 0) ≡ false
  pub records : y.records ≡ now.count
  pub end : y.end ≡ now.weight
  pub next : y.next ≡ now.next
  pub limit : y.limit ≤ 268435456
  -- a number that wasn't given yet
  pub fresh : (t : ℕ) → now.next ≤ t → txn_state s t L ≡ Some Unbegun
  pub number : next_number (last_epoch L) ≡ now.count
  pub clean : clean_place (last_epoch L) ≤ next_number (last_epoch L)

-- ---- the table
abbrev pub is_committed : State → Bool
is_committed Committed = true
is_committed _ = false

abbrev pub IsRow : Option TxnState → Option TxnRow → Type 0
IsRow None row = ⊥
IsRow (Some Unbegun) row = row ≡ None
IsRow (Some (Active w)) row = (state : State) × (is_committed state ≡ false) × (row ≡ Some (record { state = state; undos = w.undos }))
IsRow (Some (Ending dead)) row = row ≡ Some (record { state = Committed; undos = [] })
IsRow (Some Over) row = row ≡ None

abbrev pub TableRun : Sizes → List Record → Table Pending → Type 0
TableRun s L table = (t : ℕ) → IsRow (txn_state s t L) (map.get table t)

-- ---- locks
abbrev pub covers : Option Mode → Bool → Bool
covers None changes = false
covers (Some Shared) changes = not changes
covers (Some Exclusive) changes = true

abbrev pub holds : SystemState → ℕ → Block → Bool
holds y t b = covers (lock_of y t b.key) (changes_item b)

abbrev pub is_running : Option TxnState → Bool
is_running (Some (Active w)) = true
is_running (Some (Ending dead)) = true
is_running _ = false

-- t has ended, behind the first n records
abbrev pub EndedSince : ℕ → ℕ → List Record → Type 0
EndedSince t n L = (k : ℕ) × (n ≤ k) × (slice_get L k ≡ Some (Ended t))

-- who asked and the holder ran when the request was refused; the holder is in the request's way until it ends
pub record IsRefusal (s : Sizes) (L : List Record) (locks : Locks) (f : Refusal) : Type 0 where
  pub older : f.holder < f.txn
  pub within : f.at ≤ length L
  pub asking : is_running (txn_state s f.txn (take f.at L)) ≡ true
  pub running : is_running (txn_state s f.holder (take f.at L)) ≡ true
  pub conflict : EndedSince f.holder f.at L ⊎ IsConflict locks f.txn f.key f.mode f.holder

pub record LockRun (s : Sizes) (L : List Record) (y : SystemState) : Type 0 where
  -- of each block of the epoch: its owner has ended since, or holds its key
  pub held : (i : ℕ) (a : Touch) → touch_at (last_epoch L).records i ≡ Some a
      → EndedBetween a.owner i (length (last_epoch L).records) (last_epoch L).records ⊎ (holds y a.owner a.block ≡ true)
  pub apart : (t u k : ℕ) (m n : Mode) → (t == u) ≡ false → lock_of y t k ≡ Some m → lock_of y u k ≡ Some n → both_shared m n ≡ true
  pub owned : (t k : ℕ) (m : Mode) → lock_of y t k ≡ Some m → IsSome (row_of y t)
  pub refused : (n : ℕ) (f : Refusal) → slice_get y.refusals n ≡ Some f → IsRefusal s L y.locks f

-- ---- the stop
abbrev pub first_of : List ℕ → Option ℕ
first_of [] = None
first_of (r ∷ rs) = Some r

abbrev pub fail_step : Option ℕ → Record → Option ℕ
fail_step o (AuditFail b rs) = first_of rs
fail_step o _ = o

-- the first region that the epoch's AuditFail names
abbrev pub failed_first : List Record → Option ℕ
failed_first E = fold fail_step None E

abbrev pub damage_in : Option Cause → Option ℕ
damage_in (Some (Damage r)) = Some r
damage_in _ = None

pub record StopRun (s : Sizes) (L : List Record) (y : SystemState) (v : VaultState) : Type 0 where
  pub damage : damage_in y.stop ≡ failed_first (last_epoch L).records
  -- the rules let nothing follow where this is true
  pub failed : (g : Rules) → rules_state s L ≡ Some g → g.failed ≡ is_some (damage_in y.stop)
  pub store : y.stop ≡ Some Store → v.stopped ≡ true

-- ---- regions
-- a block on region r
abbrev pub on_region : ℕ → Record → Bool
on_region r x = any_touch (λ a. a.block.region == r) (touch_of x)

abbrev pub on_step : ℕ → ℕ → Record → ℕ
on_step r n x = if on_region r x then n + 1 else n

abbrev pub blocks_on : ℕ → List Record → ℕ
blocks_on r E = fold (on_step r) 0 E

-- those before the clean place
abbrev pub certified_on : ℕ → Epoch → ℕ
certified_on r e = blocks_on r (take (clean_place e - e.first) e.records)

pub record RegionRun (base : List (List ℕ)) (e : Epoch) (r : ℕ) (g : RegionState) : Type 0 where
  -- the words tie with the codeword, with the hold, and with the words without the hold's updates
  pub protected : IsProtected g
  pub reads : IfSome g.hold (λ h. h.read < 2 ^ 64)
  pub touches : g.touches ≡ blocks_on r e.records
  -- the first `sound` blocks are sound
  pub sound : (i : ℕ) (a : Touch) → touch_at e.records i ≡ Some a → a.block.region ≡ r → blocks_on r (take i e.records) < g.sound → IsSoundAt base e.records i
  pub settled : g.poked ≡ false → g.back ≡ settled base e.records r
  pub certified : g.missed ≡ false → certified_on r e ≤ g.sound

-- ---- the files, as far as they hold the log
abbrev pub log_in : Files → List Record
log_in F = flat_map (λ b. b) F.batches

pub record IsPrefix (L : List Record) (n : ℕ) (F : Files) : Type 0 where
  pub count : ℕ
  pub flushed : n ≤ count
  pub within : count ≤ length L
  pub log : log_in F ≡ take count L

pub record IsFlushed (L : List Record) (n : ℕ) (v : VaultState) (F : Files) : Type 0 where
  pub log : log_in F ≡ take n L
  pub end : v.end ≡ sum_by batch_length F.batches

-- of a crash image by itself, and where nothing is said of crashes
abbrev pub only : Files → Files → Type 0
only F G = G ≡ F

abbrev pub no_image : Files → Type 0
no_image F = ⊥

-- a count of faults rose, or stands at its type's end
abbrev pub HasRisen : ℕ → ℕ → Type 0
HasRisen before now = (before < now) ⊎ (2 ^ 64 ≤ now + 1)

pub record VaultRun (leave : Files → Type 0) (L : List Record) (n : ℕ) (v : VaultState) : Type 0 where
  pub within : n ≤ length L
  pub prefix : (F : Files) → leave F → IsPrefix L n F
  pub exact : v.stopped ≡ false → (F : Files) → leave F → IsFlushed L n v F
  -- whatever a crash may leave, the log's file is no longer than its records, with a frame for each of them
  pub short : v.end ≤ sum_by record_length (take n L) + 5 * n
  -- the count of faults is one of 64 bits, and never falls
  pub then_fits : v.faults_then < 2 ^ 64
  pub counts : v.faults_then ≤ v.faults
  -- it stopped at a fault since the load
  pub rose : v.stopped ≡ true → HasRisen v.faults_then v.faults

-- ---- all
-- the base of the epoch whose first record has this number
abbrev pub Bases : Type 0
Bases = ℕ → List (List ℕ)

abbrev pub base_at : Bases → List Record → List (List ℕ)
base_at bases L = bases (last_epoch L).first

pub record RunsOn (bases : Bases) (L : List Record) (c : CoreState) : Type 0 where
  pub log : LogRun c.system.sizes L
  pub counts : CountRun c.system.sizes L c.system
  pub table : TableRun c.system.sizes L c.system.table
  pub locks : LockRun c.system.sizes L c.system
  pub stop : StopRun c.system.sizes L c.system c.vault
  pub whole : length c.regions ≡ regions c.system.sizes
  pub base : length (base_at bases L) ≡ regions c.system.sizes
  pub regions : (r : ℕ) (g : RegionState) → slice_get c.regions r ≡ Some g → RegionRun (base_at bases L) (last_epoch L) r g

pub record IsRun (bases : Bases) (before : List Record) (leave : Files → Type 0) (c : CoreState) : Type 0 where
  pub first : c.system.first ≡ length before
  -- the last epoch began before the system was made
  pub began : (last_epoch (log_after before c.system)).first ≤ length before
  pub runs : RunsOn bases (log_after before c.system) c
  -- what is flushed was taken before, and what was taken is logged
  pub frame : stable c ≤ taken_to c.system
  pub taken : taken_to c.system ≤ length (log_after before c.system)
  pub vault : VaultRun leave (log_after before c.system) (stable c) c.vault
