pub mod Images
pub mod Tables
pub mod Shown
pub mod Moves
pub mod Refined
pub mod Laws
