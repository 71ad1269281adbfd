-- A `HeldState` is a file and what it was where its removal waits for a sync; `IsLeft h c`: a crash may leave c of it.
-- Files are seen as all that changed them. `shelf events` are the files to which these changes lead, each at its number;
-- the files at an earlier moment are those of the first changes. `held_cut n f h` is what a cut with choice n makes of
-- the file with number f.
pub mod Events
pub mod Held
pub mod Counts
pub mod Shelf
pub mod Laws
