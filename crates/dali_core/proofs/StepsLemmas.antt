pub mod Frames
pub mod Files
pub mod Moments
pub mod Lengths
pub mod Steps
pub mod Courses
