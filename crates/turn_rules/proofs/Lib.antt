mod OnePlace
pub mod Served
mod Ended
mod Strangers
mod Example
mod Stored
pub mod Rising
pub mod Barred
