pub mod Changes
pub mod Answers
pub mod States
pub mod Logs
pub mod Holds
pub mod Laws
