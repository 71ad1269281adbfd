-- Commands, lines and blocks in the words of transcripts.
--     act_of, reason_of, said_of   a command, a reason, a line
--     told_of                  a block
use Rattle.std.specs.Prelude.{map}
use Rattle.dali_transcripts.specs.Words.{Act, Begins, Calls, Arms, Commits, Aborts, Pokes, Audits, Checkpoints, Why as Reason, StoppedBy, Full, Damaged as IsDamaged, StoreFailed, UnderWay, Said, Begun as HasBegun, Answered as HasAnswered, CommitOk as IsCommitted, AbortOk as IsAborted, Aborted as WasAborted, LeftOpen as IsLeftOpen, Died as HasDied, Busy as IsBusy, PokeOk as IsPoked, PokeOutOfRange as IsOutOfRange, AuditSaid, CheckpointSaid, CheckpointFailed as HasFailed, Refused as IsRefused}
use Rattle.dali_transcripts.specs.Transcripts.{Told}
use Rattle.dali_transcripts.specs.declared.clients.command.Block.{Block}
use Rattle.dali_transcripts.specs.declared.clients.command.Command.{Command}
use Rattle.dali_transcripts.specs.declared.clients.command.Command.TheVariants.{Begin, Call, Die, Commit, Abort, Poke, Audit, Checkpoint}
use Rattle.dali_transcripts.specs.declared.clients.line.Why.{Why}
use Rattle.dali_transcripts.specs.declared.clients.line.Why.TheVariants.{Stopped, LogFull, Damaged, StoreStopped, InProgress}
use Rattle.dali_transcripts.specs.declared.clients.line.Line.{Line}
use Rattle.dali_transcripts.specs.declared.clients.line.Line.TheVariants.{Begun, Answered, CommitOk, AbortOk, Aborted, LeftOpen, Died, Busy, PokeOk, PokeOutOfRange, Audited, Checkpointed, CheckpointFailed, Refused}

abbrev pub act_of : Command → Act
act_of Begin = Begins
act_of (Call call) = Calls call
act_of (Die operation) = Arms operation
act_of Commit = Commits
act_of Abort = Aborts
act_of (Poke region word mask) = Pokes region word mask
act_of Audit = Audits
act_of Checkpoint = Checkpoints

abbrev pub reason_of : Why → Reason
reason_of (Stopped cause) = StoppedBy cause
reason_of (LogFull end limit) = Full end limit
reason_of (Damaged region codeword found) = IsDamaged region codeword found
reason_of StoreStopped = StoreFailed
reason_of InProgress = UnderWay

abbrev pub said_of : Line → Said
said_of (Begun txn) = HasBegun txn
said_of (Answered call answer) = HasAnswered call answer
said_of CommitOk = IsCommitted
said_of AbortOk = IsAborted
said_of Aborted = WasAborted
said_of LeftOpen = IsLeftOpen
said_of Died = HasDied
said_of (Busy holder) = IsBusy holder
said_of PokeOk = IsPoked
said_of PokeOutOfRange = IsOutOfRange
said_of (Audited failing) = AuditSaid failing
said_of (Checkpointed number) = CheckpointSaid number
said_of (CheckpointFailed failing) = HasFailed failing
said_of (Refused command why) = IsRefused (act_of command) (reason_of why)

abbrev pub told_of : Block → Told
told_of block = record { client = block.client; acts = map act_of block.commands.items }
