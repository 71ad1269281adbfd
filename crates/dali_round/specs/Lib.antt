pub mod Leads
pub mod Played
pub mod Ends
pub mod Idle
pub mod Moments
