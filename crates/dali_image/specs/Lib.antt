pub mod Headers
pub mod Rows
pub mod Decoding
pub mod Fields
pub mod Reading
pub mod Laws
