pub mod Spelling
pub mod Together
pub mod Loadable
pub mod Repeated
pub mod Judged
pub mod SameRows
