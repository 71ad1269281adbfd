pub mod Cleaned
pub mod Fields
pub mod Stepped
