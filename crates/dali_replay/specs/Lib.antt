-- `IsReplay L r`: r agrees exactly where `expected L` is defined, its map is then that map, and its deleted are those
-- that a chain deletes in an epoch of L, ascending.
pub mod Marking
pub mod Cutting
pub mod Walking
pub mod Following
pub mod Seen
pub mod Replayed
pub mod Texts
