-- What a client is told to do, and what it says.
--     Act                      a command of a block
--     Why                      why a command was refused
--     Said                     a line of a client, without its number
--     key_of call, mode_of call       the key and the mode of the lock that a call asks for
--     is_stop why              whether no line behind this one tells a record
--     closes act               whether the act closes the transaction
use Rattle.std.specs.Prelude.{ℕ, Bool, true, false, List}
use Rattle.dali_record.specs.declared.records.Call.{Call}
use Rattle.dali_record.specs.declared.records.Call.TheVariants.{Insert, Update, Delete, Get}
use Rattle.dali_record.specs.declared.records.Answer.{Answer}
use Rattle.dali_locks.specs.declared.mode.Mode.{Mode}
use Rattle.dali_locks.specs.declared.mode.Mode.TheVariants.{Shared, Exclusive}
use Rattle.dali_runs.specs.declared.causes.Cause.{Cause}

pub data Act : Type 0 where
  Begins : Act
  Calls : (call : Call) → Act
  -- the client dies in the operation of this number, counted from here
  Arms : (operations : ℕ) → Act
  Commits : Act
  Aborts : Act
  Pokes : (region word mask : ℕ) → Act
  Audits : Act
  Checkpoints : Act

pub data Why : Type 0 where
  -- NAME stopped damage R, NAME stopped store
  StoppedBy : (cause : Cause) → Why
  -- NAME log full END LIMIT
  Full : (end limit : ℕ) → Why
  -- NAME damaged R CODEWORD FOUND
  Damaged : (region codeword found : ℕ) → Why
  -- NAME store stopped
  StoreFailed : Why
  -- checkpoint in progress
  UnderWay : Why

pub data Said : Type 0 where
  -- begin T
  Begun : (txn : ℕ) → Said
  -- the line of a call's answer
  Answered : (call : Call) → (answer : Answer) → Said
  CommitOk : Said
  AbortOk : Said
  Aborted : Said
  LeftOpen : Said
  Died : Said
  -- busy H
  Busy : (holder : ℕ) → Said
  PokeOk : Said
  PokeOutOfRange : Said
  -- audit clean, or audit failed LIST
  AuditSaid : (regions : List ℕ) → Said
  -- checkpoint NUMBER, checkpoint failed LIST
  CheckpointSaid : (number : ℕ) → Said
  CheckpointFailed : (regions : List ℕ) → Said
  Refused : (act : Act) → (why : Why) → Said

abbrev pub key_of : Call → ℕ
key_of (Insert k v) = k
key_of (Update k v) = k
key_of (Delete k) = k
key_of (Get k) = k

abbrev pub mode_of : Call → Mode
mode_of (Get k) = Shared
mode_of (Insert k v) = Exclusive
mode_of (Update k v) = Exclusive
mode_of (Delete k) = Exclusive

-- after such a line no line of the client matches a record
abbrev pub is_stop : Why → Bool
is_stop (StoppedBy cause) = true
is_stop StoreFailed = true
is_stop _ = false

-- whether the act closes the transaction
abbrev pub closes : Act → Bool
closes Commits = true
closes Aborts = true
closes _ = false
