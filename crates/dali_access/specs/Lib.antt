pub mod Heap
pub mod Index
