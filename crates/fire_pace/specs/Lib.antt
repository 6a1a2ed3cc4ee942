pub mod News
pub mod Pace
