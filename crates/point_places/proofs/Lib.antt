pub mod Orders
pub mod Cutting
pub mod Tidying
pub mod Spans
pub mod InOrder
pub mod Listing
pub mod OneText
pub mod Elsewhere
