pub mod Giving
pub mod Keeping
pub mod Everywhere
