pub mod Placement
pub mod Candidates
pub mod Choices
