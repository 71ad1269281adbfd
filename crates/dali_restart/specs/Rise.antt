pub mod Risen
pub mod Behind
