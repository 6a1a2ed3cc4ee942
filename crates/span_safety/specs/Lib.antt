pub mod Lengths
pub mod Fences
pub mod Held
pub mod Laws
pub mod Ends
pub mod Examples
