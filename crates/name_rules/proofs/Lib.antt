pub mod Order
pub mod Places
pub mod Ordered
pub mod Entries
pub mod Spelling
