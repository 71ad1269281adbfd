pub mod MoreBytes
pub mod CutLines
pub mod Extended
pub mod LinesLeft
pub mod Ranges
pub mod Verdicts
pub mod Steps
pub mod Grouping
pub mod Outcomes
pub mod RightScripts
mod FormsOfNames
pub mod FirstWords
mod Told
