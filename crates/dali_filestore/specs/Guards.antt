-- Locks.
--     guard_of tried                    what a try to take a lock came to
--     is_lack error                     an error says that the file system has no locks: by its kind, else by its number
--     is_lack_of_locks error            so does what a try to take a lock ended with
--     is_no_locks guard                 the file system has no locks
--     HasLock excludes shares access    the lock of this access is there
--     IsGuarded excludes shares lacks access guard anchor    what keeps others away from opened files is what the guard says
--     AreGuarded excludes shares lacks access files    so it is of a store's four files, which are open
use Rattle.std.specs.Prelude.{⊤, ◌≡◌, ℤ, pos, Bool, true, false, if◌then◌else◌, Result, Ok, Err, Option, Some, None, IsNone, IsSomeAnd}
use Rattle.std.specs.Ordering.{int_eq}
use Rattle.std.specs.IoError.{error_kind, raw_os_error}
use Rattle.std.specs.declared.io.Error.{Error}
use Rattle.std.specs.declared.io.ErrorKind.{ErrorKind}
use Rattle.std.specs.declared.io.ErrorKind.TheVariants as kinds
use Rattle.std.specs.declared.fs.locks.TryLockError.{TryLockError}
use Rattle.std.specs.declared.fs.locks.TryLockError.TheVariants as tried
use Rattle.dali_store.specs.declared.store.FileName.TheVariants.{Anchor}
use Rattle.dali_filestore.specs.Failures.{cause_of}
use Rattle.dali_filestore.specs.declared.access.Access.{Access}
use Rattle.dali_filestore.specs.declared.access.Access.TheVariants.{Writing, Reading}
use Rattle.dali_filestore.specs.declared.files.FourFiles.{FourFiles}
use Rattle.dali_filestore.specs.declared.guard.Guard.{Guard}
use Rattle.dali_filestore.specs.declared.guard.Guard.TheVariants.{Locked, NoLocks, NoAnchor}
use Rattle.dali_filestore.specs.declared.failure.Failure.{Failure}
use Rattle.dali_filestore.specs.declared.failure.Failure.TheVariants.{InUse, File}

-- 37 is Linux's number of a lock that can't be had on a file system
abbrev pub is_lack_number : Option ℤ → Bool
is_lack_number (Some n) = int_eq n (pos 37)
is_lack_number None = false

abbrev pub is_lack_or_number : ErrorKind → Option ℤ → Bool
is_lack_or_number kinds.Unsupported number = true
is_lack_or_number _ number = is_lack_number number

abbrev pub is_lack : Error → Bool
is_lack error = is_lack_or_number (error_kind error) (raw_os_error error)

abbrev pub guard_of : Result ⊤ TryLockError → Result Guard Failure
guard_of (Ok done) = Ok Locked
guard_of (Err tried.WouldBlock) = Err InUse
guard_of (Err (tried.Error error)) = if is_lack error then Ok NoLocks else Err (File Anchor (cause_of error))

abbrev pub is_lack_of_locks : TryLockError → Bool
is_lack_of_locks tried.WouldBlock = false
is_lack_of_locks (tried.Error error) = is_lack error

abbrev pub is_no_locks : Guard → Bool
is_no_locks Locked = false
is_no_locks NoLocks = true
is_no_locks NoAnchor = false

abbrev pub HasLock : Type 0 → Type 0 → Access → Type 0
HasLock excludes shares Writing = excludes
HasLock excludes shares Reading = shares

pub record IsGuarded {F : Type 0} (excludes shares lacks : F → Type 0) (access : Access) (guard : Guard) (anchor : Option F) : Type 0 where
  pub locked : guard ≡ Locked → IsSomeAnd anchor (λ file. HasLock (excludes file) (shares file) access)
  pub lacking : guard ≡ NoLocks → IsSomeAnd anchor (λ file. lacks file)
  pub free : guard ≡ NoAnchor → (access ≡ Reading) × IsNone anchor

-- files are open, and what keeps others away from them is what their guard says
abbrev pub AreGuarded : {F : Type 0} → (F → Type 0) → (F → Type 0) → (F → Type 0) → Access → Option (FourFiles F) → Type 0
AreGuarded excludes shares lacks access files = IsSomeAnd files (λ four. IsGuarded excludes shares lacks access four.guard four.anchor)
