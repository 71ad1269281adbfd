pub mod Stages
pub mod Found
pub mod Rests
pub mod Runs
