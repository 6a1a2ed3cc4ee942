pub mod Deeds
pub mod Puts
