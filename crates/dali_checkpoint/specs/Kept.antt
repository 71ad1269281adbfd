-- What contracts see of a checkpoint.
--     Checkpointed             what a checkpoint keeps from its start on, and how far it has come
--     header_at y v n          the header of the image that begins behind all records of the system, where the vault's log ends there and the table has
--                              n bytes
--     cause_of y v             why the engine is stopped, if it is: the system's cause, else the vault's
--     IsEndOf y n j            the records since the load have the end of an audit with this verdict, which didn't begin before record n
--     NoneInHand y v           while the vault runs, what was taken is flushed: so it is for who has both, whatever others did before
--     AreAllFlushed y v        all records since the load are flushed
--     given_up b y             the system behind a checkpoint that is given up, where a call of the store failed or didn't
use Rattle.std.specs.Prelude.{◌≡◌, ℕ, ◌+◌, ◌≤◌, Bool, true, false, List, Option, Some, None, Contains, length}
use Rattle.dali_region.specs.declared.Side.{Side}
use Rattle.dali_runs.specs.declared.causes.Cause.{Cause}
use Rattle.dali_runs.specs.declared.causes.Cause.TheVariants.{Store}
use Rattle.dali_runs.specs.State.{SystemState}
use Rattle.dali_runs.specs.Steps.{store_stopped, in_checkpoint, audit_record}
use Rattle.dali_crash.specs.Checkpoints.{side_of}
use Rattle.dali_core.specs.Vault.Vaulted.{Vaulted}
use Rattle.dali_audit.specs.Findings.{Judged}
use Rattle.dali_image.specs.declared.header.Header.{Header}

pub record Checkpointed : Type 0 where
  pub header : Header
  -- the bytes of the table
  pub table : List ℕ
  -- how many regions were copied, or needed no copy
  pub copied : ℕ
  -- how many records the log had when it settled
  pub settled : Option ℕ
  -- a call of the store has failed in a copy
  pub faulted : Bool

abbrev pub side_in : Checkpointed → Side
side_in c = side_of c.header.number

abbrev pub header_at : {V : Type 0} → SystemState → Vaulted V → ℕ → Header
header_at y v n = record { geometry = y.sizes; number = v.current + 1; place = v.end; first = y.records; weight = y.end; next = y.next; table = n }

abbrev pub cause_in : Option Cause → Bool → Option Cause
cause_in (Some cause) stopped = Some cause
cause_in None true = Some Store
cause_in None false = None

abbrev pub cause_of : {V : Type 0} → SystemState → Vaulted V → Option Cause
cause_of y v = cause_in y.stop v.stopped

abbrev pub given_up : Bool → SystemState → SystemState
given_up true y = in_checkpoint (store_stopped y) false
given_up false y = in_checkpoint y false

abbrev pub NoneInHand : {V : Type 0} → SystemState → Vaulted V → Type 0
NoneInHand y v = v.stopped ≡ false → v.flushed ≡ y.taken

abbrev pub AreAllFlushed : {V : Type 0} → SystemState → Vaulted V → Type 0
AreAllFlushed y v = length y.since ≤ v.flushed

pub record IsEndOf (y : SystemState) (n : ℕ) (j : Judged) : Type 0 where
  pub behind : n ≤ j.begin
  pub logged : Contains y.since (audit_record j.begin j.failing)
