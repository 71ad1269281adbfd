-- `IsVerified`: what a replay of the whole log comes to, beside what is in memory.
pub mod Errors
pub mod Verified
