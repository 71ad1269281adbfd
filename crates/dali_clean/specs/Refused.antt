-- Why a clean-up is refused.
--     clean_error e            by the error of the system
use Rattle.dali_system.specs.declared.error.SystemError.{SystemError}
use Rattle.dali_system.specs.declared.error.SystemError.TheVariants.{Stopped, LogFull, OutOfMemory}
use Rattle.dali_clean.specs.declared.error.CleanError.{CleanError}
use Rattle.dali_clean.specs.declared.error.CleanError.TheVariants.{Stopped as CleanStopped, OutOfMemory as CleanMemory}

abbrev pub clean_error : SystemError → CleanError
clean_error (Stopped cause) = CleanStopped cause
clean_error (LogFull end limit) = CleanMemory
clean_error OutOfMemory = CleanMemory
