pub mod Errors
pub mod Standing
pub mod Laws
pub mod Reload
