-- What the steps leave, as functions on the system. The calls of the program say that they leave these.
--     logged y x                       one record more
--     begun y, op_logged y t b ..      after the calls that log a record, where they answer Ok
--     granted y t k m, refused y t k m h       after a request for a lock
--     in_state y t st                  after the death of a client, or the claim of a dead transaction
--     store_stopped y, in_checkpoint y b, taken y      after a stop, at the start and end of a checkpoint, where a frame is taken
use Rattle.std.specs.Prelude.{ℕ, ◌+◌, ◌-◌, Bool, List, [], ◌∷◌, ◌++◌, Option, Some, None}
use Rattle.std.specs.FinMap as map
use Rattle.dali_record.specs.declared.operations.Block.{Block}
use Rattle.dali_record.specs.declared.operations.Pending.{Pending}
use Rattle.dali_record.specs.declared.operations.Undo.{Undo}
use Rattle.dali_record.specs.declared.records.Call.{Call}
use Rattle.dali_record.specs.declared.records.Answer.{Answer}
use Rattle.dali_record.specs.declared.records.Record.{Record}
use Rattle.dali_record.specs.declared.records.Record.TheVariants.{Begin, Forward, Done, Commit, Ended, Solo, AuditBegin, AuditClean, AuditFail, Back}
use Rattle.dali_record.specs.Blocks.{pending}
use Rattle.dali_record.specs.Spelling.{record_length}
use Rattle.dali_runs.specs.Counts.Counts.{next_with}
use Rattle.dali_locks.specs.declared.mode.Mode.{Mode}
use Rattle.dali_locks.specs.Locks.{locks_with, locks_without}
use Rattle.dali_att.specs.declared.state.State.{State}
use Rattle.dali_att.specs.declared.state.State.TheVariants.{Committed}
use Rattle.dali_att.specs.Table.{Table, fresh_row, with_state, with_undo, without_last, without_undos, with_row}
use Rattle.dali_runs.specs.declared.causes.Cause.{Cause}
use Rattle.dali_runs.specs.declared.causes.Cause.TheVariants.{Damage, Store}
use Rattle.dali_runs.specs.State.{TxnRow, SystemState}

-- ---- one record more
abbrev pub logged : SystemState → Record → SystemState
logged y x = record y { since = y.since ++ x ∷ []; records = y.records + 1; end = y.end + record_length x; next = next_with x y.next }

abbrev pub begun : SystemState → SystemState
begun y = record (logged y (Begin y.next)) { table = map.insert y.table y.next fresh_row }

-- an operation's undo, if it has one, goes behind those of its transaction
abbrev pub undo_kept : Table Pending → ℕ → Block → Option Undo → Table Pending
undo_kept table t b None = table
undo_kept table t b (Some u) = with_row table t (with_undo (pending b u))

abbrev pub op_logged : SystemState → ℕ → Block → SystemState
op_logged y t b = record (logged y (Forward t b)) { table = undo_kept y.table t b b.undo }

abbrev pub back_logged : SystemState → ℕ → Block → SystemState
back_logged y t b = record (logged y (Back t b)) { table = with_row y.table t without_last }

abbrev pub solo_logged : SystemState → ℕ → Block → SystemState
solo_logged y p b = logged y (Solo y.next p b)

abbrev pub done_logged : SystemState → ℕ → Call → Answer → SystemState
done_logged y t c a = logged y (Done t c a)

-- its undos are the caller's from then on: the removals among them are freed for good by solos
abbrev pub committed_row : TxnRow → TxnRow
committed_row row = with_state Committed (without_undos row)

abbrev pub commit_logged : SystemState → ℕ → SystemState
commit_logged y t = record (logged y (Commit t)) { table = with_row y.table t committed_row }

-- its locks are free then
abbrev pub ended_logged : SystemState → ℕ → SystemState
ended_logged y t = record (logged y (Ended t)) { table = map.remove y.table t; locks = locks_without y.locks t }

abbrev pub audit_begun : SystemState → SystemState
audit_begun y = logged y AuditBegin

-- what an audit that began at b and found these regions logs
abbrev pub audit_record : ℕ → List ℕ → Record
audit_record b [] = AuditClean b
audit_record b (r ∷ rs) = AuditFail b (r ∷ rs)

-- where it found some, the engine stops
abbrev pub stop_by_audit : List ℕ → Option Cause → Option Cause
stop_by_audit [] stop = stop
stop_by_audit (r ∷ rs) stop = Some (Damage r)

abbrev pub audit_ended : SystemState → ℕ → List ℕ → SystemState
audit_ended y b found = record (logged y (audit_record b found)) { stop = stop_by_audit found y.stop }

-- ---- steps that log nothing
abbrev pub granted : SystemState → ℕ → ℕ → Mode → SystemState
granted y t k m = record y { locks = locks_with y.locks t k m }

abbrev pub refused : SystemState → ℕ → ℕ → Mode → ℕ → SystemState
refused y t k m h = record y { refusals = y.refusals ++ record { txn = t; key = k; mode = m; holder = h; at = y.records } ∷ [] }

-- the death of a client, and the claim of a dead transaction
abbrev pub in_state : SystemState → ℕ → State → SystemState
in_state y t st = record y { table = with_row y.table t (with_state st) }

-- a cause that stands already stays
abbrev pub stopped_by : Option Cause → Option Cause
stopped_by None = Some Store
stopped_by (Some c) = Some c

abbrev pub store_stopped : SystemState → SystemState
store_stopped y = record y { stop = stopped_by y.stop }

abbrev pub in_checkpoint : SystemState → Bool → SystemState
in_checkpoint y b = record y { checking = b }

-- all records so far are taken, to be flushed
abbrev pub taken : SystemState → SystemState
taken y = record y { taken = y.records - y.first }
