pub mod Maps
pub mod Rows
pub mod Outcomes
pub mod Changes
