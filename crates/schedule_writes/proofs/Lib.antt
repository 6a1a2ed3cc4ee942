pub mod Reports
pub mod Feeding
pub mod Logs
pub mod Words
pub mod SameLines
pub mod OneOutput
