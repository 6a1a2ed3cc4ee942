pub mod Blocks
pub mod Bits
pub mod Bounds
pub mod Growing
pub mod First
pub mod Distance
pub mod Ring
pub mod Place
