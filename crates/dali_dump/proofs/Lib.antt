pub mod Causes
pub mod Numbered
