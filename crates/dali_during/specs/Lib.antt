pub mod During
pub mod Points
pub mod Reported
pub mod Gaps
pub mod Whole
pub mod UndosFind
