pub mod Chains
pub mod Choices
pub mod Hearing
pub mod Logging
pub mod Reports
