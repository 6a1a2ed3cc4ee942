pub mod Requests
pub mod Kinds
pub mod Counters
pub mod Samples
pub mod Shares
pub mod Metrics
pub mod States
pub mod Answers
