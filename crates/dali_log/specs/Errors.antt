-- The errors of reading a batch as those of reading the log.
use Rattle.dali_log.specs.declared.error.BatchError.{BatchError}
use Rattle.dali_log.specs.declared.error.BatchError.TheVariants.{Fault, BadLog, OutOfMemory}
use Rattle.dali_log.specs.declared.error.LogError.{LogError}
use Rattle.dali_log.specs.declared.error.LogError.TheVariants.{Fault as LogFault, BadLog as BadLogAt, OutOfMemory as LogMemory}

abbrev pub log_error : BatchError → LogError
log_error Fault = LogFault
log_error (BadLog at) = BadLogAt at
log_error OutOfMemory = LogMemory
