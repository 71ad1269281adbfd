pub mod Cells
pub mod Rows
pub mod Laws
pub mod Operations
pub mod Orders
