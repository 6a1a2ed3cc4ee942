pub mod Limits
pub mod Units
pub mod Marks
pub mod Laws
