pub mod Fields
pub mod Findings
pub mod Stepped
