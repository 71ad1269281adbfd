pub mod HeapLemmas
pub mod IndexLemmas
