pub mod Logs
pub mod Tests
