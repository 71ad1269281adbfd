-- How an error of the log is told.
--     read_as e            that of a batch, as one of the comparison
use Rattle.dali_log.specs.declared.error.BatchError.{BatchError}
use Rattle.dali_log.specs.declared.error.BatchError.TheVariants.{Fault, BadLog, OutOfMemory}
use Rattle.dali_verify.specs.declared.error.VerifyError.{VerifyError}
use Rattle.dali_verify.specs.declared.error.VerifyError.TheVariants as verifying

abbrev pub read_as : BatchError → VerifyError
read_as Fault = verifying.Fault
read_as (BadLog at) = verifying.BadLog at
read_as OutOfMemory = verifying.OutOfMemory
