pub mod Laws
pub mod Limits
pub mod Memory
pub mod Names
pub mod PrimaryCommands
pub mod Rows
pub mod Starts
pub mod Tables
