pub mod Keys
pub mod Walks
pub mod Marks
pub mod Cuts
pub mod Deletes
pub mod Follows
pub mod Replays
