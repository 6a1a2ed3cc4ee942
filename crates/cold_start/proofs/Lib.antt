pub mod Steps
pub mod Facts
pub mod OneLife
pub mod Begins
pub mod Example
