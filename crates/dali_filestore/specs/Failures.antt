-- Why a call failed.
--     cause_of error            what is told of an error of the operating system
--     cause_of_kind kind        by its kind, where that tells something
--     cause_of_number number    else by its number
--     file_in failure           the file that a failure names
--     segment_in failure        the segment that a failure names, but the first
use Rattle.std.specs.Prelude.{ℕ, ℤ, pos, Option, Some, None, if◌then◌else◌}
use Rattle.std.specs.Ordering.{int_eq}
use Rattle.std.specs.IoError.{error_kind, raw_os_error}
use Rattle.std.specs.declared.io.Error.{Error}
use Rattle.std.specs.declared.io.ErrorKind.{ErrorKind}
use Rattle.std.specs.declared.io.ErrorKind.TheVariants as kinds
use Rattle.dali_store.specs.declared.store.FileName.{FileName}
use Rattle.dali_filestore.specs.declared.failure.Cause.{Cause}
use Rattle.dali_filestore.specs.declared.failure.Cause.TheVariants as causes
use Rattle.dali_filestore.specs.declared.failure.Failure.{Failure}
use Rattle.dali_filestore.specs.declared.failure.Failure.TheVariants.{InUse, LogMissing, ReadingAlone, Folder, File, Segment}

abbrev pub cause_of_kind : ErrorKind → Option Cause
cause_of_kind kinds.NotFound = Some causes.NotFound
cause_of_kind kinds.PermissionDenied = Some causes.PermissionDenied
cause_of_kind kinds.IsADirectory = Some causes.IsFolder
cause_of_kind kinds.NotADirectory = Some causes.IsNoFolder
cause_of_kind kinds.ReadOnlyFilesystem = Some causes.ReadOnlyFileSystem
cause_of_kind kinds.StorageFull = Some causes.NoSpaceLeft
cause_of_kind kinds.QuotaExceeded = Some causes.QuotaExceeded
cause_of_kind kinds.FileTooLarge = Some causes.FileTooLarge
cause_of_kind kinds.UnexpectedEof = Some causes.EndsEarly
cause_of_kind kinds.WriteZero = Some causes.TakesNoMore
cause_of_kind kinds.FilesystemLoop = Some causes.TooManyLinks
cause_of_kind kinds.InvalidFilename = Some causes.PathTooLong
cause_of_kind kinds.TimedOut = Some causes.TimedOut
cause_of_kind kinds.OutOfMemory = Some causes.OutOfMemory
cause_of_kind kinds.ResourceBusy = Some causes.Busy
cause_of_kind kinds.ExecutableFileBusy = Some causes.Busy
cause_of_kind kinds.Unsupported = Some causes.NotSupported
cause_of_kind _ = None

-- 5 is Linux's number of an input or output error, 22 that of a call which a file doesn't take
abbrev pub cause_of_number : Option ℤ → Cause
cause_of_number (Some n) = if int_eq n (pos 5) then causes.InputOutput else (if int_eq n (pos 22) then causes.NotSupported else causes.System n)
cause_of_number None = causes.Other

abbrev pub or_by_number : Option Cause → Option ℤ → Cause
or_by_number (Some c) number = c
or_by_number None number = cause_of_number number

abbrev pub cause_of : Error → Cause
cause_of error = or_by_number (cause_of_kind (error_kind error)) (raw_os_error error)

abbrev pub file_in : Failure → Option FileName
file_in (File file what) = Some file
file_in InUse = None
file_in LogMissing = None
file_in ReadingAlone = None
file_in (Folder what) = None
file_in (Segment number what) = None

abbrev pub segment_in : Failure → Option ℕ
segment_in (Segment number what) = Some number
segment_in (File file what) = None
segment_in InUse = None
segment_in LogMissing = None
segment_in ReadingAlone = None
segment_in (Folder what) = None
