mod AccuserEntries
mod Changes
mod ClaimerEntries
pub mod Counts
mod LookUps
mod Views
mod VoteEntries
