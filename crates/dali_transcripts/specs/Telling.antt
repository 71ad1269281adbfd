pub mod Deeds
pub mod Tells
pub mod Effects
pub mod Laws
