pub mod Growing
pub mod Waiting
pub mod Turning
pub mod Opening
pub mod Stepping
pub mod Asking
