pub mod Greatest
pub mod Excesses
pub mod Decided
pub mod Named
pub mod Kept
pub mod Waits
