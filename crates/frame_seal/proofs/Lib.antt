pub mod Blocks
pub mod Sealed
pub mod Opening
pub mod LinksOver
