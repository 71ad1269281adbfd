pub mod Ranges
pub mod Right
pub mod Parts
pub mod Steps
pub mod Keys
pub mod Along
