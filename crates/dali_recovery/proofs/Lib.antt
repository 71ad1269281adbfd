pub mod Passing
pub mod Records
pub mod Ordered
pub mod Making
pub mod Epochs
pub mod Whole
pub mod ReloadLemmas
