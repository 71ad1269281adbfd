pub mod Stages
pub mod Places
pub mod Found
pub mod Saying
pub mod Telling
pub mod Runs
