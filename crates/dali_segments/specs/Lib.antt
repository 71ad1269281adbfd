-- `log_of size files` is the log that segments are, `store_of size files` the four files of a store. The length of
-- the file `mark` is how many segments, from 1 on, are dropped: they read as 00, whatever stands in their files.
pub mod Pieces
pub mod Segments
pub mod Laws
pub mod Quiet
pub mod Images
pub mod Clears
pub mod Writes
pub mod Drops
pub mod LogDrops
pub mod Extents
pub mod Less
