pub mod Went
pub mod Calls
pub mod Keeps
pub mod Runs
pub mod Beside
