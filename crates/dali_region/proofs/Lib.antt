pub mod Words
pub mod Holds
pub mod Olds
