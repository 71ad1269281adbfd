pub mod Kept
pub mod Runs
pub mod Done
pub mod Running
pub mod Laws
pub mod Moments
pub mod Making
pub mod CopiedOut
