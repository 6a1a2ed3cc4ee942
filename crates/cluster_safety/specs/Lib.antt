pub mod Moments
pub mod Plans
pub mod Logs
pub mod Promises
pub mod Laws
