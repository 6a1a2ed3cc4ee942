pub mod Lives
pub mod Stepping
pub mod Serving
pub mod Refusals
pub mod Reading
