pub mod Order
pub mod Ranges
pub mod Kept
pub mod Outcomes
pub mod Changes
