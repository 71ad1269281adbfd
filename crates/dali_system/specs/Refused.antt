-- When a record is refused.
--     refusal y n              why the system takes no record of n bytes that uses room, if so
--     stop_refusal y           the same for a record that uses none
use Rattle.std.specs.Prelude.{ℕ, ◌+◌, Option, Some, None, if◌then◌else◌, nat_lt}
use Rattle.dali_runs.specs.State.{SystemState}
use Rattle.dali_runs.specs.declared.causes.Cause.{Cause}
use Rattle.dali_system.specs.declared.error.SystemError.{SystemError}
use Rattle.dali_system.specs.declared.error.SystemError.TheVariants.{Stopped, LogFull}

abbrev pub stop_of : Option Cause → Option SystemError
stop_of None = None
stop_of (Some cause) = Some (Stopped cause)

abbrev pub room_of : Option Cause → ℕ → ℕ → ℕ → Option SystemError
room_of (Some cause) end limit n = Some (Stopped cause)
room_of None end limit n = if nat_lt limit (end + n) then Some (LogFull end limit) else None

abbrev pub refusal : SystemState → ℕ → Option SystemError
refusal y n = room_of y.stop y.end y.limit n

abbrev pub stop_refusal : SystemState → Option SystemError
stop_refusal y = stop_of y.stop
