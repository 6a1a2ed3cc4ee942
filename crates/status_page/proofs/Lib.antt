pub mod Heads
pub mod Joins
