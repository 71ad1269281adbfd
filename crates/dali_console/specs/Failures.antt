-- Why a standard stream failed.
--     failure_of error            what is told of an error of the operating system
--     failure_of_kind kind        by its kind, where that tells something
--     failure_of_number number    else by its number
--     failure_behind error old    the last failure behind a call with this error: one that was interrupted is made again, and is none
use Rattle.std.specs.Prelude.{ℤ, pos, Option, Some, None, if◌then◌else◌}
use Rattle.std.specs.Ordering.{int_eq}
use Rattle.std.specs.IoError.{error_kind, raw_os_error}
use Rattle.std_io.specs.declared.io.error.Error.{Error}
use Rattle.std_io.specs.declared.io.kind.ErrorKind.{ErrorKind}
use Rattle.std_io.specs.declared.io.kind.ErrorKind.TheVariants as kind
use Rattle.dali_console.specs.declared.failure.StreamFailure.{StreamFailure}
use Rattle.dali_console.specs.declared.failure.StreamFailure.TheVariants as failure

abbrev pub failure_of_kind : ErrorKind → Option StreamFailure
failure_of_kind kind.IsADirectory = Some failure.IsFolder
failure_of_kind kind.BrokenPipe = Some failure.BrokenPipe
failure_of_kind kind.StorageFull = Some failure.NoSpaceLeft
failure_of_kind kind.QuotaExceeded = Some failure.QuotaExceeded
failure_of_kind kind.FileTooLarge = Some failure.FileTooLarge
failure_of_kind kind.WriteZero = Some failure.TakesNoMore
failure_of_kind kind.WouldBlock = Some failure.WouldBlock
failure_of_kind _ = None

-- 5 is Linux's number of an input or output error, 9 that of a descriptor that isn't open
abbrev pub failure_of_number : Option ℤ → StreamFailure
failure_of_number (Some n) = if int_eq n (pos 5) then failure.InputOutput else (if int_eq n (pos 9) then failure.Closed else failure.System n)
failure_of_number None = failure.Other

abbrev pub or_by_number : Option StreamFailure → Option ℤ → StreamFailure
or_by_number (Some f) number = f
or_by_number None number = failure_of_number number

abbrev pub failure_of : Error → StreamFailure
failure_of error = or_by_number (failure_of_kind (error_kind error)) (raw_os_error error)

abbrev pub behind_kind : ErrorKind → Option StreamFailure → Option StreamFailure → Option StreamFailure
behind_kind kind.Interrupted new old = old
behind_kind _ new old = new

abbrev pub failure_behind : Error → Option StreamFailure → Option StreamFailure
failure_behind error old = behind_kind (error_kind error) (Some (failure_of error)) old
