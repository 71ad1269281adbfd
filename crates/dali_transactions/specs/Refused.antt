-- Why the end of a transaction is refused, by the error of the system.
use Rattle.dali_system.specs.declared.error.SystemError.{SystemError}
use Rattle.dali_system.specs.declared.error.SystemError.TheVariants.{Stopped, LogFull, OutOfMemory}
use Rattle.dali_transactions.specs.declared.error.AbortError.{AbortError}
use Rattle.dali_transactions.specs.declared.error.AbortError.TheVariants.{Stopped as AbortStopped, OutOfMemory as AbortMemory}
use Rattle.dali_transactions.specs.declared.error.CommitError.{CommitError}
use Rattle.dali_transactions.specs.declared.error.CommitError.TheVariants.{Stopped as CommitStopped, OutOfMemory as CommitMemory}

abbrev pub abort_error : SystemError → AbortError
abort_error (Stopped cause) = AbortStopped cause
abort_error (LogFull end limit) = AbortMemory
abort_error OutOfMemory = AbortMemory

abbrev pub commit_error : SystemError → CommitError
commit_error (Stopped cause) = CommitStopped cause
commit_error (LogFull end limit) = CommitMemory
commit_error OutOfMemory = CommitMemory
