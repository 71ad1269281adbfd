pub mod Alone
pub mod Back
