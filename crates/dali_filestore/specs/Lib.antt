pub mod Access
pub mod Failures
pub mod Folder
pub mod Guards
pub mod Images
pub mod Segments
