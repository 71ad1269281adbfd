-- Why a command is refused.
--     why_in e                 the reason of a record that the system refused; none where memory was wanting
use Rattle.std.specs.Prelude.{Option, Some, None}
use Rattle.dali_system.specs.declared.error.SystemError.{SystemError}
use Rattle.dali_system.specs.declared.error.SystemError.TheVariants.{Stopped, LogFull, OutOfMemory}
use Rattle.dali_transcripts.specs.declared.clients.line.Why.{Why}
use Rattle.dali_transcripts.specs.declared.clients.line.Why.TheVariants.{Stopped as IsStopped, LogFull as IsFull}

abbrev pub why_in : SystemError → Option Why
why_in (Stopped cause) = Some (IsStopped cause)
why_in (LogFull end limit) = Some (IsFull end limit)
why_in OutOfMemory = None
