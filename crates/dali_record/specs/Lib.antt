-- `spelling r` are the bytes of a record, `CanBeSpelled r` says that its numbers fit their fields, its lists ascend,
-- and that outcome and undo go with the operation. `made ws key r op` is the block of an operation on the words `ws`.
-- `marks d E` are the records of an epoch with their marks under the damage `d`; `kept` leaves out what is dropped.
-- `separates r`: r is a Format or a Restarted, between which the epochs of a log lie. `Fits s base L F e`: the image in
-- the files F belongs to the epoch e of the log L. Redoing the blocks from its record number to e's clean place over
-- its words gives what the epoch's blocks up to there give over its base. `with_batch F rs` are the files with one
-- batch more.
pub mod Operations
pub mod Blocks
pub mod Log
pub mod Epochs
pub mod Locks
pub mod Damage
pub mod Settled
pub mod Spelling
pub mod Reading
pub mod Calls
pub mod Legal
pub mod Files
pub mod Laws
pub mod Scan
