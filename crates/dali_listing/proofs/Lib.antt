mod Walk
mod Rows
pub mod Sorted
