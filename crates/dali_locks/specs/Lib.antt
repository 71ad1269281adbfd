-- `Locks` is a finite map at pairs (transaction, key). `IsFree locks t k m`: each other holder of k and m are both
-- shared. `IsOldestConflict locks t k m h`: h is the least number of a transaction other than t that holds k in a mode
-- that isn't shared together with m. `IsAnswer`: Granted where free; Wait h where h is the oldest conflict and t < h;
-- Busy h where h < t. `locks_with locks t k m` inserts `stronger_mode (what t has) m` at (t, k); `locks_without locks
-- t` keeps the pairs of others. `IsApart`: of two holders of a key both modes are Shared.
pub mod Locks
pub mod Pairs
