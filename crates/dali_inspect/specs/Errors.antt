-- How an error of a restart is told.
--     inspect_error e          that of one over the copy, as one of the inspection
use Rattle.dali_restart.specs.declared.error.RestartError.{RestartError}
use Rattle.dali_restart.specs.declared.error.RestartError.TheVariants as restarts
use Rattle.dali_inspect.specs.declared.error.InspectError.{InspectError}
use Rattle.dali_inspect.specs.declared.error.InspectError.TheVariants as errors

-- a store in memory fails for want of it alone
abbrev pub inspect_error : RestartError → InspectError
inspect_error restarts.Fault = errors.OutOfMemory
inspect_error (restarts.BadStore file at) = errors.BadStore file at
inspect_error restarts.Unformatted = errors.Unformatted
inspect_error restarts.Formatted = errors.OutOfMemory
inspect_error restarts.TooLong = errors.TooLong
inspect_error restarts.Unsteady = errors.OutOfMemory
inspect_error restarts.OutOfMemory = errors.OutOfMemory
