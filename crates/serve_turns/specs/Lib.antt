pub mod Live
pub mod Moves
pub mod Steps
pub mod Policies
pub mod Telling
pub mod Asking
pub mod Turns
pub mod Lives
