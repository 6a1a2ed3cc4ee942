pub mod AgainRefusing
pub mod Finding
pub mod Planning
pub mod Refusing
