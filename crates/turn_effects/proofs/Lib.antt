pub mod Growing
pub mod Keeping
pub mod Sending
mod Reporting
pub mod Carrying
