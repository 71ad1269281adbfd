pub mod Lists
pub mod Tallies
pub mod NewNumbers
pub mod SmallLogs
pub mod Fronts
pub mod ShortLogs
pub mod LightLogs
pub mod Begins
