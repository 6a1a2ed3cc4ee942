pub mod Reports
pub mod Queues
pub mod Pieces
