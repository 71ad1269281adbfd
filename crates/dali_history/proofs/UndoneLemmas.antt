pub mod After
pub mod Listed
pub mod Words
pub mod Stepped
pub mod Left
pub mod Found
pub mod Restarts
pub mod Worked
