pub mod Said
pub mod Groups
pub mod Transcript
pub mod Places
pub mod Verdicts
pub mod Audits
pub mod Statuses
