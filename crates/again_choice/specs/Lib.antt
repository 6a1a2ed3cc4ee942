pub mod Folders
pub mod Candidates
pub mod Dones
pub mod Choices
pub mod Lines
pub mod Worked
