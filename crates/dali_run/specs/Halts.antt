-- What ends a run before its script is done.
--     halt_of.. e           what a failed call ends it with
--     status_of halt        the status of a run that ends so
--     last_line status      the last line that such a run writes, with its end
--     status_in result      the status of a run with this result
use Rattle.std.specs.Prelude.{ℕ, List, [], ◌++◌, codes, Result, Ok, Err}
use Rattle.std.specs.Fmt.{decimal}
use Rattle.dali_arguments.specs.Meaning.{usage}
use Rattle.dali_arguments.specs.declared.error.ArgumentError.{ArgumentError}
use Rattle.dali_arguments.specs.declared.error.ArgumentError.TheVariants as words
use Rattle.dali_dump.specs.declared.error.DumpError.{DumpError}
use Rattle.dali_dump.specs.declared.error.DumpError.TheVariants as dumps
use Rattle.dali_inspect.specs.declared.error.InspectError.{InspectError}
use Rattle.dali_inspect.specs.declared.error.InspectError.TheVariants as inspections
use Rattle.dali_restart.specs.declared.error.RestartError.{RestartError}
use Rattle.dali_restart.specs.declared.error.RestartError.TheVariants as restarts
use Rattle.dali_script.specs.declared.faults.ScriptError.{ScriptError}
use Rattle.dali_script.specs.declared.faults.ScriptError.TheVariants as scripts
use Rattle.dali_script.specs.Faults.{text_of}
use Rattle.dali_store.specs.Store.{name_of}
use Rattle.dali_store.specs.declared.store.FileName.TheVariants.{Log}
use Rattle.dali_streams.specs.declared.whole.ReadError.{ReadError}
use Rattle.dali_streams.specs.declared.whole.ReadError.TheVariants as streams
use Rattle.dali_run.specs.declared.halt.Halt.{Halt}
use Rattle.dali_run.specs.declared.halt.Halt.TheVariants as halts
use Rattle.dali_run.specs.declared.status.Status.{Status}
use Rattle.dali_run.specs.declared.status.Status.TheVariants as statuses

abbrev pub halt_of_restart : RestartError → Halt
halt_of_restart restarts.Fault = halts.StoreFault
halt_of_restart (restarts.BadStore file at) = halts.BadStore file at
halt_of_restart restarts.Unformatted = halts.Unformatted
halt_of_restart restarts.Formatted = halts.Formatted
halt_of_restart restarts.TooLong = halts.RecordTooLong
halt_of_restart restarts.Unsteady = halts.StoreUnsteady
halt_of_restart restarts.OutOfMemory = halts.OutOfMemory

abbrev pub halt_of_inspection : InspectError → Halt
halt_of_inspection inspections.StoreFault = halts.StoreFault
halt_of_inspection (inspections.BadStore file at) = halts.BadStore file at
halt_of_inspection inspections.Unformatted = halts.Unformatted
halt_of_inspection inspections.TooLong = halts.RecordTooLong
halt_of_inspection inspections.OutOfMemory = halts.OutOfMemory

abbrev pub halt_of_script : ScriptError → Halt
halt_of_script (scripts.BadLine line kind) = halts.BadScript line kind
halt_of_script scripts.OutOfMemory = halts.OutOfMemory

abbrev pub halt_of_read : ReadError → Halt
halt_of_read streams.Fault = halts.ReadFault
halt_of_read streams.TooLong = halts.TooLong
halt_of_read streams.OutOfMemory = halts.OutOfMemory

abbrev pub halt_of_words : ArgumentError → Halt
halt_of_words words.Faulty = halts.BadWords
halt_of_words words.OutOfMemory = halts.OutOfMemory

abbrev pub halt_of_dump : DumpError → Halt
halt_of_dump dumps.Fault = halts.StoreFault
halt_of_dump (dumps.BadLog at) = halts.BadStore Log at
halt_of_dump dumps.Unformatted = halts.Unformatted
halt_of_dump dumps.OutOfMemory = halts.OutOfMemory

abbrev pub status_of : Halt → Status
status_of halts.BadWords = statuses.BadWords
status_of (halts.BadScript line kind) = statuses.BadScript line kind
status_of halts.TooLong = statuses.TooLong
status_of halts.ReadFault = statuses.ReadFault
status_of halts.WriteFault = statuses.WriteFault
status_of halts.StoreFault = statuses.StoreFault
status_of (halts.BadStore file at) = statuses.BadStore file at
status_of halts.Unformatted = statuses.Unformatted
status_of halts.Formatted = statuses.Formatted
status_of halts.StoreUnsteady = statuses.StoreUnsteady
status_of halts.RecordTooLong = statuses.RecordTooLong
status_of (halts.LogFull end limit) = statuses.LogFull end limit
status_of halts.OutOfMemory = statuses.OutOfMemory
status_of halts.TooSmall = statuses.TooSmall
status_of halts.NotLoaded = statuses.NotLoaded

abbrev pub last_line : Status → List ℕ
last_line statuses.Done = []
last_line statuses.BadWords = usage ++ codes "\n"
last_line (statuses.BadScript line kind) = codes "line " ++ (decimal line ++ (codes ": " ++ (text_of kind ++ codes "\n")))
last_line statuses.TooLong = codes "script too long\n"
last_line statuses.ReadFault = codes "read fault\n"
last_line statuses.WriteFault = []
last_line statuses.StoreFault = codes "store fault\n"
last_line (statuses.BadStore file at) = codes "bad store " ++ (name_of file ++ (codes " " ++ (decimal at ++ codes "\n")))
last_line statuses.Unformatted = codes "unformatted\n"
last_line statuses.Formatted = codes "formatted\n"
last_line statuses.StoreUnsteady = codes "store unsteady\n"
last_line statuses.RecordTooLong = codes "record too long\n"
last_line statuses.OutOfMemory = codes "out of memory\n"
last_line statuses.TooSmall = codes "too small\n"
last_line statuses.NotLoaded = codes "not loaded\n"
last_line (statuses.LogFull end limit) = codes "log full " ++ (decimal end ++ (codes " " ++ (decimal limit ++ codes "\n")))

-- the status of a run with this result
abbrev pub status_in : Result (Unit {0}) Halt → Status
status_in (Ok done) = statuses.Done
status_in (Err halt) = status_of halt
