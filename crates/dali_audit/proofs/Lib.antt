pub mod Collected
pub mod Passed
pub mod Stepping
pub mod Three
