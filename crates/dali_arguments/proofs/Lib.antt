pub mod InRange
pub mod Answered
pub mod Built
pub mod Getters
mod Asked
