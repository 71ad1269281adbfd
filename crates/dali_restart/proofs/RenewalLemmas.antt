pub mod Beside
pub mod Bytes
pub mod Images
pub mod Bodies
pub mod Staged
pub mod Kept
pub mod Turned
