pub mod Lives
pub mod Members
pub mod Answers
pub mod Rooms
