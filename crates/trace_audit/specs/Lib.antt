pub mod SafeRuns
pub mod Recordings
pub mod Traced
pub mod Laws
