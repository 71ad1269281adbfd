-- How an error of the log is told.
--     dump_error e         that of reading it, as one of the dump
use Rattle.dali_log.specs.declared.error.LogError.{LogError}
use Rattle.dali_log.specs.declared.error.LogError.TheVariants as reading
use Rattle.dali_dump.specs.declared.error.DumpError.{DumpError}
use Rattle.dali_dump.specs.declared.error.DumpError.TheVariants.{Fault, Unformatted, BadLog, OutOfMemory}

abbrev pub dump_error : LogError → DumpError
dump_error reading.Fault = Fault
dump_error reading.Unformatted = Unformatted
dump_error (reading.BadLog at) = BadLog at
dump_error reading.OutOfMemory = OutOfMemory
