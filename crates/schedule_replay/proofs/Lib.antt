pub mod Lines
pub mod Words
pub mod Along
mod Beginning
mod Faults
mod Statuses
mod Taking
mod Waits
