pub mod Opened
pub mod Stepwise
pub mod Beside
pub mod Tested
