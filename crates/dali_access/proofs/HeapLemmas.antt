pub mod Dependence
pub mod CellLaws
pub mod Orders
pub mod Walk
