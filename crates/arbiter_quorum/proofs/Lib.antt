pub mod Majorities
pub mod Mapped
pub mod Counts
pub mod Decisions
