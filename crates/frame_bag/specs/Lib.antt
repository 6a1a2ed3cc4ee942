pub mod Stored
pub mod Bags
