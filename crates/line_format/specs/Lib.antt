pub mod Names
pub mod Commands
pub mod Lines
pub mod Heads
pub mod Refusals
pub mod Lists
pub mod Reports
pub mod Readers
