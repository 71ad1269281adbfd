pub mod Fuse
pub mod Watch
