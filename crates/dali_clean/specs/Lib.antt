pub mod Undone
pub mod Refused
pub mod Steps
pub mod Cleaned
pub mod Others
pub mod Fit
pub mod Cleanup
