-- What the small steps of a call leave of its client.
--     TurnsBack k x plan why j     the call is refused, and its changes are taken back from here on
--     IsRefusedBy e k x plan r j   so it is where the log is full; an engine that is stopped is told at once; with no memory nothing is said
--     IsDeadly x                   the client dies in the next operation
--     IsFurther x back x'          the transaction behind an operation: one that goes on brings the death nearer
--     call_in command              the call, if the command is one
--     MakesNext gs y plan command region     a call is under way, and its plan, which is at rest, makes its next operation in this region
--     MustWait y t call            t must wait for the lock of the call, and the client of the holder hasn't died
use Rattle.std.specs.Prelude.{◌≡◌, ℕ, ◌-◌, Bool, true, false, List, Option, Some, None, IsSome, Result, Ok, OnOk, OnErr, IfOk}
use Rattle.dali_bytes.specs.declared.error.OutOfMemory.{OutOfMemory as NoMemory}
use Rattle.dali_record.specs.declared.records.Call.{Call}
use Rattle.dali_locks.specs.declared.mode.LockAnswer.TheVariants.{Wait}
use Rattle.dali_locks.specs.Locks.{IsAnswer}
use Rattle.dali_region.specs.State.{RegionState}
use Rattle.dali_runs.specs.State.{SystemState, state_of}
use Rattle.dali_system.specs.declared.error.SystemError.{SystemError}
use Rattle.dali_system.specs.declared.error.SystemError.TheVariants.{Stopped, LogFull, OutOfMemory}
use Rattle.dali_system.specs.declared.want.Want.TheVariants.{Region}
use Rattle.dali_calls.specs.Steps.{call_key}
use Rattle.dali_calls.specs.Plans.{IsWhole, Planned, refused, mode_of, want_of}
use Rattle.dali_calls.specs.Single.Stands.{IsAtRest}
use Rattle.dali_transcripts.specs.World.{is_dead_in}
use Rattle.dali_transcripts.specs.declared.clients.command.Command.{Command}
use Rattle.dali_transcripts.specs.declared.clients.command.Command.TheVariants.{Call as CallCommand}
use Rattle.dali_transcripts.specs.declared.clients.line.Why.{Why}
use Rattle.dali_transcripts.specs.declared.clients.line.Why.TheVariants.{Stopped as IsStopped, LogFull as IsFull}
use Rattle.dali_turns.specs.declared.client.Client.{Client}
use Rattle.dali_turns.specs.declared.client.State.TheVariants.{Within, TakingBack}
use Rattle.dali_turns.specs.declared.client.Transaction.{Transaction}
use Rattle.dali_turns.specs.Clients.{Passes, RefusesCall, Stays}

abbrev pub TurnsBack : Client → Transaction → Planned → Why → Client → Type 0
TurnsBack k x plan why j = Stays k (TakingBack x (refused plan) why) j

abbrev pub IsRefusedBy : SystemError → Client → Transaction → Planned → Result Bool NoMemory → Client → Type 0
IsRefusedBy (LogFull end limit) k x plan r j = (r ≡ Ok true) × TurnsBack k x plan (IsFull end limit) j
IsRefusedBy (Stopped cause) k x plan r j = IfOk r (λ moved. moved ≡ true) × OnOk r (RefusesCall k x (IsStopped cause) j) × OnErr r (Passes k (Within x) j)
IsRefusedBy OutOfMemory k x plan r j = OnErr r (j ≡ k) × IfOk r (λ moved. ⊥)

abbrev pub IsDeadly : Transaction → Type 0
IsDeadly x = x.deadly ≡ Some 1

-- one operation less
abbrev pub less_one : Option ℕ → Option ℕ
less_one None = None
less_one (Some n) = Some (n - 1)

abbrev pub deadly_behind : Bool → Option ℕ → Option ℕ
deadly_behind true d = d
deadly_behind false d = less_one d

pub record IsFurther (x : Transaction) (back : Bool) (x' : Transaction) : Type 0 where
  pub txn : x'.txn ≡ x.txn
  pub tries : x'.tries ≡ x.tries
  pub commands : x'.commands.now ≡ x.commands.now
  pub deadly : x'.deadly ≡ deadly_behind back x.deadly

abbrev pub call_in : Option Command → Option Call
call_in (Some (CallCommand call)) = Some call
call_in command = None

pub record MakesNext (gs : List RegionState) (y : SystemState) (plan : Planned) (command : Option Command) (region : ℕ) : Type 0 where
  pub rest : IsAtRest gs y plan
  pub called : IsSome (call_in command)
  pub wants : want_of plan ≡ Region region
  pub whole : IsWhole plan

abbrev pub MustWait : SystemState → ℕ → Call → Type 0
MustWait y t call = (holder : ℕ) × IsAnswer y.locks t (call_key call) (mode_of call) (Wait holder) × (is_dead_in (state_of y holder) ≡ false)
