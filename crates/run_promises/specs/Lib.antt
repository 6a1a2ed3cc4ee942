pub mod Reports
pub mod Snapshots
pub mod Writes
pub mod Questions
pub mod Covered
pub mod Answers
pub mod Arbitrators
