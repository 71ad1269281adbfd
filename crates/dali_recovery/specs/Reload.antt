pub mod Errors
pub mod Counting
pub mod Reading
pub mod Scanning
pub mod Laws
