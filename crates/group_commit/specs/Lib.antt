pub mod Given
pub mod Groups
pub mod Memory
pub mod Queues
