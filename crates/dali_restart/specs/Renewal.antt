pub mod Written
pub mod Logged
pub mod Renewed
