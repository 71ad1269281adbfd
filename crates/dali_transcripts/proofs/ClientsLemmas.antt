pub mod Inverses
pub mod Numbers
