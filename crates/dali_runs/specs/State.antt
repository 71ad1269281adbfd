-- What contracts see of the system, the vault and the core.
--     TxnRow                   what the table keeps of a transaction
--     SystemState              the log's end, the table, the locks
--     VaultState               whether the store may be written no more, and how far the log is flushed
--     CoreState                the regions, the system and the vault
--     row_of y t, state_of y t       the row of a transaction, and its state, if it has one
--     hold_of c r              the hold on a region, if there is one
--     lock_of y t k            the mode in which t holds the key k, if it does
--     taken_to y               the number of the first record that wasn't taken
--     stable c                 the number of the first record that isn't flushed
--     log_after before y       the log: the records that stood when the system was made, and those since
use Rattle.std.specs.Prelude.{ℕ, ◌+◌, Bool, List, Option, None, ◌++◌, slice_get}
use Rattle.std.specs.Option.{option_map, option_map_or}
use Rattle.std.specs.FinMap as map
use Rattle.dali_geometry.specs.Sizes.{Sizes}
use Rattle.dali_record.specs.declared.operations.Pending.{Pending}
use Rattle.dali_record.specs.declared.records.Record.{Record}
use Rattle.dali_region.specs.declared.Hold.{Hold}
use Rattle.dali_region.specs.State.{RegionState}
use Rattle.dali_locks.specs.declared.mode.Mode.{Mode}
use Rattle.dali_locks.specs.Locks.{Locks}
use Rattle.dali_att.specs.declared.state.State.{State}
use Rattle.dali_att.specs.Table.{Row, Table}
use Rattle.dali_runs.specs.declared.refusals.Refusal.{Refusal}
use Rattle.dali_runs.specs.declared.causes.Cause.{Cause}

abbrev pub TxnRow : Type 0
TxnRow = Row Pending

pub record SystemState : Type 0 where
  pub sizes : Sizes
  -- how many records stood in the log when the system was made, those logged since, and how many of these were taken to be flushed
  pub first : ℕ
  pub since : List Record
  pub taken : ℕ
  pub table : Table Pending
  pub locks : Locks
  pub refusals : List Refusal
  -- of the whole log: its records, the sum of their lengths, and the next transaction's number
  pub records : ℕ
  pub end : ℕ
  pub next : ℕ
  -- the greatest sum of lengths behind a record that uses room
  pub limit : ℕ
  pub stop : Option Cause
  -- whether a checkpoint is under way
  pub checking : Bool

pub record VaultState : Type 0 where
  -- a store call has failed, and nothing more is written
  pub stopped : Bool
  -- the place behind the log's last batch, and how many records were flushed since the vault was made
  pub end : ℕ
  pub flushed : ℕ
  -- the number of the current image
  pub current : ℕ
  -- the store's count of faults, at the load and now
  pub faults_then : ℕ
  pub faults : ℕ

pub record CoreState : Type 0 where
  pub regions : List RegionState
  pub system : SystemState
  pub vault : VaultState

abbrev pub row_of : SystemState → ℕ → Option TxnRow
row_of y t = map.get y.table t

abbrev pub state_in : Option TxnRow → Option State
state_in row = option_map (λ (r : TxnRow). r.state) row

abbrev pub state_of : SystemState → ℕ → Option State
state_of y t = state_in (row_of y t)

abbrev pub hold_in : Option RegionState → Option Hold
hold_in g = option_map_or (λ (g : RegionState). g.hold) g None

abbrev pub hold_of : CoreState → ℕ → Option Hold
hold_of c r = hold_in (slice_get c.regions r)

abbrev pub lock_of : SystemState → ℕ → ℕ → Option Mode
lock_of y t k = map.get y.locks (t, k)

abbrev pub taken_to : SystemState → ℕ
taken_to y = y.first + y.taken

abbrev pub stable : CoreState → ℕ
stable c = c.system.first + c.vault.flushed

abbrev pub log_after : List Record → SystemState → List Record
log_after before y = before ++ y.since
