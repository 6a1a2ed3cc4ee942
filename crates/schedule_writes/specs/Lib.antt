pub mod Feeding
pub mod Writes
pub mod Laws
