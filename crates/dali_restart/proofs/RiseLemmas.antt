pub mod Begun
pub mod Behind
