-- How a checkpoint of a client ends.
--     line_in made             the line of a checkpoint that has ended so; none where memory was wanting
--     SaysEnd k made j         the client says it
--     Unsaid k made j          it doesn't, for want of memory
use Rattle.std.specs.Prelude.{◌≡◌, ◌⊎◌, ℕ, Option, Some, None, Result, Ok, Err}
use Rattle.dali_checkpoint.specs.declared.error.CheckpointError.{CheckpointError}
use Rattle.dali_checkpoint.specs.declared.error.CheckpointError.TheVariants.{Failed, InProgress, Stopped, LogFull, Fault, OutOfMemory}
use Rattle.dali_transcripts.specs.declared.clients.command.Command.TheVariants.{Checkpoint}
use Rattle.dali_transcripts.specs.declared.clients.line.Line.{Line}
use Rattle.dali_transcripts.specs.declared.clients.line.Line.TheVariants.{Checkpointed, CheckpointFailed, Refused}
use Rattle.dali_transcripts.specs.declared.clients.line.Why.TheVariants.{Stopped as IsStopped, LogFull as IsFull, StoreStopped, InProgress as IsInProgress}
use Rattle.dali_turns.specs.declared.client.Client.{Client}
use Rattle.dali_turns.specs.declared.client.State.TheVariants.{Outside}
use Rattle.dali_turns.specs.Clients.{Passes, Finishes}

abbrev pub line_in : Result ℕ CheckpointError → Option Line
line_in (Ok number) = Some (Checkpointed number)
line_in (Err (Failed regions)) = Some (CheckpointFailed regions)
line_in (Err InProgress) = Some (Refused Checkpoint IsInProgress)
line_in (Err (Stopped cause)) = Some (Refused Checkpoint (IsStopped cause))
line_in (Err (LogFull end limit)) = Some (Refused Checkpoint (IsFull end limit))
line_in (Err Fault) = Some (Refused Checkpoint StoreStopped)
line_in (Err OutOfMemory) = None

abbrev pub SaysEnd : Client → Result ℕ CheckpointError → Client → Type 0
SaysEnd k made j = (line : Line) × (line_in made ≡ Some line) × Finishes k Outside line j

abbrev pub Unsaid : Client → Result ℕ CheckpointError → Client → Type 0
Unsaid k made j = ((line_in made ≡ None) × (j ≡ k)) ⊎ ((line : Line) × (line_in made ≡ Some line) × Passes k Outside j)
