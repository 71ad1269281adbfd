pub mod Redoing
pub mod Steps
pub mod Tables
pub mod Fields
pub mod Following
pub mod Laws
pub mod Taint
