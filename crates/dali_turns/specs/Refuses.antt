-- What is refused is refused in the step that meets it, and not later.
--     TurnsNow k x plan why j  the call takes back from here on, for this reason
--     SaysLine k state line j  the client says this line of the command that is under way, and stands in this state
--     SaysNow k state command why j    so it says that the command is refused for this reason
--     SaysStop y state command k r j   behind a stop it says so of its cause
--     SaysCall k x why j       so it says it of the call that is under way, and stands in its transaction
--     DiesNext x plan          the client dies in the next operation of its call
--     IsHeld stop k x j        behind this stop, if there is one, it says so of the call that is under way
--     IsMet e stop k x plan j  so it is where the next operation, or the answer, is refused by e: by damage or a full log the call takes back, a stop is said,
--                              also where the region is latched by a dead client
--     IsMetBack e stop k x j   so it is where what takes a call back is refused by e: a stop is said
--     refusal_of y command     why the engine refuses a command outside a transaction, if so
--     left_at command          where the client stands behind its refusal
--     RefusesNow y command k r j       so the client says it
--     RefusesIn y x next k r j behind a stop it says so of the next command of its transaction x; where none is left it says that x is left open
--     MayBegin y holder        a transaction that gave way to this holder may be tried again
--     WantsRoom y count next   a checkpoint that copied so many of the regions copied them all, and there is no room for its audit
--     GivesUp k j              the client says that its checkpoint is refused
--     SaysOk k j               the client says that its commit is done, and stands outside
--     EndsCommit ..            so it does behind a stop where the record of its commit is flushed; else, once the store is stopped, it says that
--     Refuses precheck state k gs y flushed r j stopped    so is each of these where a step doesn't want memory: so many records were flushed before it,
--                              and whether the store is stopped behind it
use Rattle.std.specs.Prelude.{◌≡◌, ◌⊎◌, ℕ, ◌≤◌, ◌<◌, ◌+◌, Bool, true, false, if◌then◌else◌, List, [], ◌∷◌, ◌++◌, Option, Some, None, Result, IsSome, OnOk, drop, length}
use Rattle.dali_bytes.specs.declared.error.OutOfMemory.{OutOfMemory as NoMemory}
use Rattle.dali_record.specs.declared.records.Record.TheVariants.{AuditBegin, Begin as BeginRecord}
use Rattle.dali_record.specs.Spelling.{record_length}
use Rattle.dali_region.specs.State.{RegionState}
use Rattle.dali_region.specs.declared.LatchError.TheVariants.{Damaged, DeadHolder}
use Rattle.dali_runs.specs.declared.causes.Cause.{Cause}
use Rattle.dali_runs.specs.State.{SystemState}
use Rattle.dali_system.specs.Audits.{audit_refusal}
use Rattle.dali_system.specs.Refused.{refusal, stop_refusal}
use Rattle.dali_system.specs.declared.error.SystemError.{SystemError}
use Rattle.dali_system.specs.declared.error.SystemError.TheVariants.{Stopped, LogFull}
use Rattle.dali_system.specs.declared.want.Want.TheVariants.{Region, Nothing}
use Rattle.dali_calls.specs.Plans.{Planned, refused, want_of, plan_next, is_back}
use Rattle.dali_calls.specs.Single.Refusals.{IsRefusal, IsLatched}
use Rattle.dali_calls.specs.declared.single.error.StepError.{StepError}
use Rattle.dali_calls.specs.declared.single.error.StepError.TheVariants.{Latch, System}
use Rattle.dali_transcripts.specs.declared.clients.command.Command.{Command}
use Rattle.dali_transcripts.specs.declared.clients.command.Command.TheVariants.{Begin, Call, Commit, Abort, Audit, Checkpoint}
use Rattle.dali_transcripts.specs.declared.clients.line.Line.{Line}
use Rattle.dali_transcripts.specs.declared.clients.line.Line.TheVariants.{CommitOk, LeftOpen, Refused}
use Rattle.dali_transcripts.specs.declared.clients.line.Why.{Why}
use Rattle.dali_transcripts.specs.declared.clients.line.Why.TheVariants.{Stopped as IsStopped, LogFull as IsFull, Damaged as IsDamaged, InProgress, StoreStopped}
use Rattle.dali_turns.specs.declared.client.Client.{Client}
use Rattle.dali_turns.specs.declared.client.State.{State}
use Rattle.dali_turns.specs.declared.client.State.TheVariants.{Outside, LeftOut, Within, Calling, TakingBack, Committing, Waiting, Auditing, Copying, Certifying}
use Rattle.dali_turns.specs.declared.client.Transaction.{Transaction}
use Rattle.dali_turns.specs.Calls.{IsDeadly}
use Rattle.dali_turns.specs.Clients.{next_of}
use Rattle.dali_turns.specs.Outside.{HasGone}
use Rattle.dali_turns.specs.Whys.{why_in}

abbrev pub TurnsNow : Client → Transaction → Planned → Why → Client → Type 0
TurnsNow k x plan why j = (j.state ≡ TakingBack x (refused plan) why) × (j.rest.now ≡ k.rest.now) × (j.transcript.lines ≡ k.transcript.lines)

abbrev pub SaysLine : Client → State → Line → Client → Type 0
SaysLine k state line j = (j.state ≡ state) × (j.rest.now ≡ drop 1 k.rest.now) × (j.transcript.lines ≡ k.transcript.lines ++ line ∷ [])

abbrev pub SaysNow : Client → State → Command → Why → Client → Type 0
SaysNow k state command why j = SaysLine k state (Refused command why) j

abbrev pub SaysStop : SystemState → State → Command → Client → Result Bool NoMemory → Client → Type 0
SaysStop y state command k r j = (cause : Cause) → y.stop ≡ Some cause → OnOk r (SaysNow k state command (IsStopped cause) j)

-- ---- in a call
abbrev pub SaysCall : Client → Transaction → Why → Client → Type 0
SaysCall k x why j = (command : Command) → next_of k ≡ Some command → SaysNow k (Within x) command why j

abbrev pub DiesNext : Transaction → Planned → Type 0
DiesNext x plan = IsDeadly x × IsSome (plan_next plan) × (is_back plan ≡ false)

-- behind a stop a dead client isn't cleaned up
abbrev pub IsHeld : Option Cause → Client → Transaction → Client → Type 0
IsHeld stop k x j = (cause : Cause) → stop ≡ Some cause → SaysCall k x (IsStopped cause) j

abbrev pub IsMet : StepError → Option Cause → Client → Transaction → Planned → Client → Type 0
IsMet (Latch (Damaged codeword found)) stop k x plan j = (r : ℕ) → want_of plan ≡ Region r → TurnsNow k x plan (IsDamaged r codeword found) j
IsMet (Latch (DeadHolder t)) stop k x plan j = IsHeld stop k x j
IsMet (System (LogFull end limit)) stop k x plan j = TurnsNow k x plan (IsFull end limit) j
IsMet (System (Stopped cause)) stop k x plan j = SaysCall k x (IsStopped cause) j
IsMet e stop k x plan j = Unit {0}

abbrev pub IsMetBack : StepError → Option Cause → Client → Transaction → Client → Type 0
IsMetBack (Latch (DeadHolder t)) stop k x j = IsHeld stop k x j
IsMetBack (System (Stopped cause)) stop k x j = SaysCall k x (IsStopped cause) j
IsMetBack e stop k x j = Unit {0}

-- ---- in a transaction, and in no call
-- a death to come is noted
abbrev pub RefusesIn : SystemState → Transaction → Option Command → Client → Result Bool NoMemory → Client → Type 0
RefusesIn y x None k r j = IsSome y.stop → OnOk r (SaysLine k Outside LeftOpen j)
RefusesIn y x (Some (Call call)) k r j = SaysStop y (Within x) (Call call) k r j
RefusesIn y x (Some Commit) k r j = SaysStop y Outside Commit k r j
RefusesIn y x (Some Abort) k r j = SaysStop y Outside Abort k r j
RefusesIn y x (Some command) k r j = Unit {0}

-- ---- outside a transaction
abbrev pub said_of : Option SystemError → Option Why
said_of None = None
said_of (Some e) = why_in e

abbrev pub refusal_of : SystemState → Command → Option Why
refusal_of y Begin = said_of (refusal y (record_length (BeginRecord y.next)))
refusal_of y Audit = said_of (audit_refusal y AuditBegin)
refusal_of y Checkpoint = if y.checking then Some InProgress else said_of (stop_refusal y)
refusal_of y command = None

abbrev pub left_at : Command → State
left_at Begin = LeftOut
left_at command = Outside

abbrev pub RefusesNow : SystemState → Command → Client → Result Bool NoMemory → Client → Type 0
RefusesNow y command k r j = (why : Why) → refusal_of y command ≡ Some why → OnOk r (SaysNow k (left_at command) command why j)

abbrev pub MayBegin : SystemState → ℕ → Type 0
MayBegin y holder = HasGone y holder ⊎ IsSome y.stop

-- ---- in a checkpoint
abbrev pub WantsRoom : SystemState → (count next : ℕ) → Type 0
WantsRoom y count next = (count ≤ next) × IsSome (audit_refusal y AuditBegin)

abbrev pub GivesUp : Client → Client → Type 0
GivesUp k j = (why : Why) × SaysNow k Outside Checkpoint why j

-- ---- in a commit
abbrev pub SaysOk : Client → Client → Type 0
SaysOk k j = SaysLine k Outside CommitOk j

pub record EndsCommit (number : ℕ) (k : Client) (y : SystemState) (flushed : ℕ) (r : Result Bool NoMemory) (j : Client) (stopped : Bool) : Type 0 where
  pub done : number < y.first + flushed → IsSome y.stop → OnOk r (SaysOk k j)
  pub lost : y.first + flushed ≤ number → stopped ≡ true → OnOk r (SaysNow k Outside Commit StoreStopped j)

abbrev pub Refuses : Bool → State → Client → List RegionState → SystemState → (flushed : ℕ) → Result Bool NoMemory → Client → (stopped : Bool) → Type 0
Refuses precheck (Calling x plan) k gs y flushed r j stopped = (e : StepError) → IsRefusal precheck plan gs y e → (DiesNext x plan → IsLatched e) → OnOk r (IsMet e y.stop k x plan j)
Refuses precheck (TakingBack x plan why) k gs y flushed r j stopped =
    ((e : StepError) → IsRefusal precheck plan gs y e → OnOk r (IsMetBack e y.stop k x j)) × (want_of plan ≡ Nothing → OnOk r (SaysCall k x why j))
Refuses precheck (Within x) k gs y flushed r j stopped = RefusesIn y x (next_of k) k r j
Refuses precheck Outside k gs y flushed r j stopped = (command : Command) → next_of k ≡ Some command → RefusesNow y command k r j
Refuses precheck (Committing x number removals next) k gs y flushed r j stopped = EndsCommit number k y flushed r j stopped
Refuses precheck (Waiting tries holder) k gs y flushed r j stopped = MayBegin y holder → next_of k ≡ Some Begin → RefusesNow y Begin k r j
-- behind the last region
Refuses precheck (Auditing audit next) k gs y flushed r j stopped = length gs ≤ next → SaysStop y Outside Audit k r j
Refuses precheck (Copying c next) k gs y flushed r j stopped = SaysStop y Outside Checkpoint k r j × (WantsRoom y (length gs) next → OnOk r (GivesUp k j))
Refuses precheck (Certifying c audit next) k gs y flushed r j stopped = length gs ≤ next → SaysStop y Outside Checkpoint k r j
Refuses precheck state k gs y flushed r j stopped = Unit {0}
