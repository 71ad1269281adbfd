pub mod Serving
pub mod Stepped
