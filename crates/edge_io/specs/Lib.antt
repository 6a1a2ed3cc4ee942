pub mod Limits
pub mod Plan
pub mod Edge
pub mod Arrivals
pub mod Readings
pub mod Lists
pub mod Memory
pub mod Told
