pub mod Lists
pub mod Bits
pub mod Steps
pub mod Orderly
pub mod Tells
pub mod Blocks
pub mod Starts
