pub mod RingComputed
pub mod Computed
pub mod Named
