pub mod Logs
pub mod Compared
