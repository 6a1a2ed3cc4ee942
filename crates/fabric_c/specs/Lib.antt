pub mod Codes
pub mod Rooms
pub mod Replies
pub mod Names
pub mod Lines
pub mod Words
pub mod Laws
pub mod Worked
