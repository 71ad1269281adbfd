pub mod Facts
pub mod Plans
pub mod States
pub mod Ends
pub mod Undos
