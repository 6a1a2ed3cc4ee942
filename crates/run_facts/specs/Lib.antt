pub mod Held
pub mod Laws
pub mod RingApart
pub mod RingStaysApart
