-- How the errors of reading the log and of a recovery are told.
--     read_as e        of the reader
--     told_at at e     of a recovery, at a record that begins at this place
use Rattle.std.specs.Prelude.{ℕ}
use Rattle.dali_log.specs.declared.error.LogError.{LogError}
use Rattle.dali_log.specs.declared.error.LogError.TheVariants.{Fault as LogFault, Unformatted, BadLog as LogBad, OutOfMemory as LogMemory}
use Rattle.dali_recovery.specs.declared.error.RecoveryError.{RecoveryError}
use Rattle.dali_recovery.specs.declared.error.RecoveryError.TheVariants.{Misfit, Unscanned as EpochUnscanned, OutOfMemory as RecoveryMemory}
use Rattle.dali_recovery.specs.declared.reload.error.ReloadError.{ReloadError}
use Rattle.dali_recovery.specs.declared.reload.error.ReloadError.TheVariants.{Fault, BadLog, Unscanned, OutOfMemory}

abbrev pub read_as : LogError → ReloadError
read_as LogFault = Fault
read_as Unformatted = BadLog 0
read_as (LogBad at) = BadLog at
read_as LogMemory = OutOfMemory

abbrev pub told_at : ℕ → RecoveryError → ReloadError
told_at at Misfit = BadLog at
told_at at EpochUnscanned = Unscanned
told_at at RecoveryMemory = OutOfMemory
