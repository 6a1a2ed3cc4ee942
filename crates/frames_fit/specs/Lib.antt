pub mod Formats
pub mod InRange
pub mod Tables
pub mod Above
pub mod Nothing
pub mod Laws
