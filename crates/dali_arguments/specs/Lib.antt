pub mod Command
pub mod Errors
pub mod Meaning
pub mod Laws
pub mod Tasks
pub mod Questions
