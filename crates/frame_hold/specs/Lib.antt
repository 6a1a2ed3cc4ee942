pub mod Losses
pub mod Waits
pub mod Kept
pub mod Promises
pub mod OneLength
