pub mod Failures
pub mod Inputs
pub mod Marks
pub mod Stores
