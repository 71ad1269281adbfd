-- A `State` is one file: what reads give (`seen`), what the last sync kept (`synced`), the ranges written since
-- (`spans`). `IsImage s c` is the crash rule, `cut_by n f s` the formula of a cut for the file number f. A `History`
-- (of a store, and not of a log) is what the files began with and all events since. `disks h` are the four files that
-- it leads to; the files at an earlier moment are those of its first events.
pub mod State
pub mod Mixed
pub mod Counts
pub mod Memory
pub mod Sound
pub mod Laws
