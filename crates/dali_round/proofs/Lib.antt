mod Marks
mod Begun
mod Lists
mod Places
mod Between
mod Seats
pub mod Starts
mod Outcomes
mod Made
mod Halts
mod Playing
mod Moments
mod Whole
mod Keeping
mod Handing
mod Passing
mod GoingOn
mod Orders
