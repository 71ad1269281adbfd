-- `AreKept s base cuts K` is what the law of kept records asks:
-- - a base that keeps the index's invariant and has nothing dead; - values that are values, and sound blocks; - no cut
-- transaction with a Commit; - `KeepsCalls`: each transaction's records are the beginning of those of one that keeps
-- the rules; solos may be missing; - `IsLockLegalBut`: a conflict has its Ended between, or the first owner was cut,
-- left no undo on the item, and stands before the second block.
-- `Stands s base K order` is what it gives, where the transactions without Commit are taken back in this order.
pub mod Kept
