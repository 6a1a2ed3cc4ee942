pub mod Tasks
pub mod Views
pub mod Answers
