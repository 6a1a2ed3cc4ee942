pub mod Judging
pub mod Accepted
pub mod OneOutput
pub mod Fronts
pub mod Closing
pub mod Endings
pub mod First
