-- A *gate* is a byte: a5 is open, every other byte closed. A *body* is the bytes of a batch's records, a *frame* a body
-- with its length before it and the next closed gate behind. `Ends bytes p bodies e`: read from place p, the file has
-- these batches, and a closed gate at e. `Adds at more old new`: read from any place from which the old log ended at
-- `at`, the new one has the same batches and these more. `IsReadTo log r rs`: the reader r of this log has handed out
-- the records rs, and the part of the file that it has read ahead is the log's. `LogOf bytes L e`: the bytes are a log
-- of these batches of records, the first a format alone, which ends at e. `BadAt bytes at`: they are no log, and the
-- first bad place is `at`.
pub mod Batch
pub mod Appending
pub mod Reads
pub mod Finding
pub mod Log
pub mod Errors
pub mod Fields
pub mod Formatting
pub mod Laws
pub mod Stream
pub mod Entries
pub mod Anchors
