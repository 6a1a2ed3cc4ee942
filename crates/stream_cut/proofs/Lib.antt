pub mod Positions
pub mod FirstFeed
pub mod Rooms
pub mod Walks
pub mod Cutting
pub mod Coming
