pub mod Nearest
pub mod Spans
pub mod Masks
