-- Commands, reasons and lines again, from their words.
use Rattle.std.proofs.Common.{◌≡◌, refl, ap, sym, ◌∙◌}
use Rattle.dali_transcripts.specs.Words.{Act, Begins, Calls, Arms, Commits, Aborts, Pokes, Audits, Checkpoints, Why as Reason, StoppedBy, Full, Damaged as IsDamaged, StoreFailed, UnderWay, Said, Begun as HasBegun, Answered as HasAnswered, CommitOk as IsCommitted, AbortOk as IsAborted, Aborted as WasAborted, LeftOpen as IsLeftOpen, Died as HasDied, Busy as IsBusy, PokeOk as IsPoked, PokeOutOfRange as IsOutOfRange, AuditSaid, CheckpointSaid, CheckpointFailed as HasFailed, Refused as IsRefused}
use Rattle.dali_transcripts.specs.declared.clients.command.Command.{Command}
use Rattle.dali_transcripts.specs.declared.clients.command.Command.TheVariants.{Begin, Call, Die, Commit, Abort, Poke, Audit, Checkpoint}
use Rattle.dali_transcripts.specs.declared.clients.line.Why.{Why}
use Rattle.dali_transcripts.specs.declared.clients.line.Why.TheVariants.{Stopped, LogFull, Damaged, StoreStopped, InProgress}
use Rattle.dali_transcripts.specs.declared.clients.line.Line.{Line}
use Rattle.dali_transcripts.specs.declared.clients.line.Line.TheVariants.{Begun, Answered, CommitOk, AbortOk, Aborted, LeftOpen, Died, Busy, PokeOk, PokeOutOfRange, Audited, Checkpointed, CheckpointFailed, Refused}
use Rattle.dali_transcripts.specs.Clients.Told.{act_of, reason_of, said_of}
use Rattle.dali_transcripts.specs.Clients.Laws.{EachIsTold}

abbrev command_in : Act → Command
command_in Begins = Begin
command_in (Calls call) = Call call
command_in (Arms operations) = Die operations
command_in Commits = Commit
command_in Aborts = Abort
command_in (Pokes region word mask) = Poke region word mask
command_in Audits = Audit
command_in Checkpoints = Checkpoint

abbrev why_in : Reason → Why
why_in (StoppedBy cause) = Stopped cause
why_in (Full end limit) = LogFull end limit
why_in (IsDamaged region codeword found) = Damaged region codeword found
why_in StoreFailed = StoreStopped
why_in UnderWay = InProgress

abbrev line_in : Said → Line
line_in (HasBegun txn) = Begun txn
line_in (HasAnswered call answer) = Answered call answer
line_in IsCommitted = CommitOk
line_in IsAborted = AbortOk
line_in WasAborted = Aborted
line_in IsLeftOpen = LeftOpen
line_in HasDied = Died
line_in (IsBusy holder) = Busy holder
line_in IsPoked = PokeOk
line_in IsOutOfRange = PokeOutOfRange
line_in (AuditSaid failing) = Audited failing
line_in (CheckpointSaid number) = Checkpointed number
line_in (HasFailed failing) = CheckpointFailed failing
line_in (IsRefused act why) = Refused (command_in act) (why_in why)

same_command : (c : Command) → command_in (act_of c) ≡ c
same_command Begin = refl
same_command _ = refl

same_why : (c : Why) → why_in (reason_of c) ≡ c
same_why (Stopped cause) = refl
same_why _ = refl

same_line : (c : Line) → line_in (said_of c) ≡ c
same_line (Refused command why) = ap (λ c. Refused c (why_in (reason_of why))) (same_command command) ∙ ap (λ y. Refused command y) (same_why why)
same_line _ = refl

pub each_is_told : EachIsTold
each_is_told = record {
  commands = λ c d e. sym (same_command c) ∙ ap command_in e ∙ same_command d;
  reasons = λ c d e. sym (same_why c) ∙ ap why_in e ∙ same_why d;
  lines = λ c d e. sym (same_line c) ∙ ap line_in e ∙ same_line d;
}
