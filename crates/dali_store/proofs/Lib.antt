pub mod Calls
pub mod Causes
pub mod Drops
pub mod Moments
pub mod OneFile
