pub mod Flushing
pub mod CleanedUp
pub mod Moments
pub mod Lengths
pub mod VaultLemmas
pub mod StepsLemmas
