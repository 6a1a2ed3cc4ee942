pub mod Routes
pub mod Entries
pub mod Laws
