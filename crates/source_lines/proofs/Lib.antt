pub mod Positions
pub mod Cuts
pub mod FirstFeed
pub mod Feeds
pub mod Pieces
pub mod Taking
pub mod Wholes
