pub mod Order
pub mod Segments
pub mod Spots
pub mod Lines
pub mod Steps
pub mod Laws
pub mod Holders
