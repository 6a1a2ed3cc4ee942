pub mod Doublings
pub mod Bounds
