pub mod Making
pub mod Back
