pub mod Crews
pub mod Judging
pub mod Along
pub mod Taken
pub mod Planning
pub mod First
pub mod Runs
