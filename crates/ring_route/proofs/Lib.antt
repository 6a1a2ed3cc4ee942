pub mod Hearing
pub mod Sorting
pub mod Repeats
pub mod Chains
pub mod Hops
pub mod Pigeons
pub mod Heard
pub mod Around
