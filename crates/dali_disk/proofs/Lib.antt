mod Mix
pub mod Images
mod Copies
