pub mod Rows
pub mod ByTests
pub mod Premises
