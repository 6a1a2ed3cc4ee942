pub mod Polled
pub mod Asked
pub mod Voted
pub mod Chosen
