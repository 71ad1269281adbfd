-- The locks' part of a run by itself.
--     LocksGrant               a lock that is granted keeps it
--     LocksRefuse              so does a request that is refused
--     locks_after x K          the locks behind the record x
--     LocksLog                 so does a record more, where the owner of its block holds the key
use Rattle.std.specs.Prelude.{◌≡◌, ℕ, true, false, List, [], ◌∷◌, ◌++◌, Some, IsSome, length}
use Rattle.dali_geometry.specs.Sizes.{Sizes}
use Rattle.dali_record.specs.declared.records.Record.{Record}
use Rattle.dali_record.specs.declared.records.Record.TheVariants.{Ended}
use Rattle.dali_record.specs.Epochs.{separates}
use Rattle.dali_record.specs.Log.{Touch, touch_of}
use Rattle.dali_locks.specs.declared.mode.Mode.{Mode}
use Rattle.dali_locks.specs.declared.mode.LockAnswer.TheVariants.{Granted, Busy}
use Rattle.dali_locks.specs.Locks.{Locks, IsAnswer, locks_without}
use Rattle.dali_runs.specs.State.{SystemState, row_of, lock_of}
use Rattle.dali_runs.specs.Run.{TableRun, LockRun, holds}
use Rattle.dali_runs.specs.Steps.{granted, refused}

abbrev pub LocksGrant : Type 0
LocksGrant =
    (s : Sizes) (L : List Record) (y : SystemState) (t k : ℕ) (m : Mode) → LockRun s L y
    → IsSome (row_of y t) → IsAnswer y.locks t k m Granted
    → LockRun s L (granted y t k m)

-- who asks and who holds are in the table
abbrev pub LocksRefuse : Type 0
LocksRefuse =
    (s : Sizes) (L : List Record) (y : SystemState) (t k h : ℕ) (m : Mode) → LockRun s L y
    → TableRun s L y.table → y.records ≡ length L → IsSome (row_of y t) → IsAnswer y.locks t k m (Busy h)
    → LockRun s L (refused y t k m h)

abbrev pub locks_after : Record → Locks → Locks
locks_after (Ended t) K = locks_without K t
locks_after x K = K

-- z is the system behind the record: its table has a row for who still holds a lock
abbrev pub LocksLog : Type 0
LocksLog =
    (s : Sizes) (L : List Record) (x : Record) (y z : SystemState) → LockRun s L y
    → separates x ≡ false → z.locks ≡ locks_after x y.locks → z.refusals ≡ y.refusals
    → ((t k : ℕ) (m : Mode) → lock_of z t k ≡ Some m → IsSome (row_of z t))
    → ((a : Touch) → touch_of x ≡ Some a → holds y a.owner a.block ≡ true)
    → LockRun s (L ++ x ∷ []) z
