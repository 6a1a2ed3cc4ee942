pub mod Refusals
pub mod Follows
pub mod Acts
pub mod Begins
pub mod Fitting
pub mod Halting
pub mod Statuses
pub mod Waits
