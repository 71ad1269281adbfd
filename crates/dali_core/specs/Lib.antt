pub mod Cores
pub mod Flushed
pub mod Cleaned
pub mod Moments
pub mod Vault
pub mod Steps
