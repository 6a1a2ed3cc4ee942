pub mod Runs
pub mod Steps
pub mod Windows
pub mod Moves
pub mod Opening
