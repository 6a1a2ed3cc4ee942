pub mod Arbiters
pub mod Laws
pub mod Lives
pub mod Memory
pub mod RegisterLaws
