pub mod Speakers
pub mod Requests
pub mod Words
pub mod Replies
