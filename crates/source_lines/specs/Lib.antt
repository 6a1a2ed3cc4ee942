pub mod Lines
pub mod Feeds
pub mod Reading
pub mod Stops
