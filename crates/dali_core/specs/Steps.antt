pub mod At
pub mod Said
pub mod Called
pub mod Courses
