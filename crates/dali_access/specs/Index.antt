-- `records s image` are the pairs of key and value for which a live entry of the key names a live cell of the key. The
-- entry is in a region that the walk of the key comes to; the cell has a length of 1 to 40. `IsIndexed`: no two live
-- entries have one key; the walk of its key comes to each live or dead entry; each live entry names a live cell of its
-- key, and each live cell is named by a live entry. `IsTidy`: no state is 2 and no live cell has an odd length.
-- `IsInForm`: each state is 0, 1 or 2, and live and dead cells have a length of 1 to 40. `IsReached s image k r`:
-- region r stands fewer than I steps behind the home of k, and the flag of each region before it isn't 0. `Gap`:
-- `Matched`, `CellAlone p`, `EntryAlone r e`.
pub mod Entries
pub mod Rows
pub mod Records
pub mod Reached
pub mod Laws
pub mod Operations
pub mod Orders
pub mod Within
pub mod Invariant
pub mod Keeps
pub mod Form
