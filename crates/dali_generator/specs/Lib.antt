pub mod Generated
pub mod Left
pub mod Summary
