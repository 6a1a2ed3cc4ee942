pub mod Numbered
pub mod Orders
pub mod Ways
pub mod Risen
pub mod Taken
