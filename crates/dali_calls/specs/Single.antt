pub mod Operated
pub mod Refusals
pub mod Stands
pub mod Single
pub mod Advanced
pub mod Ending
pub mod Settling
pub mod Others
