pub mod Splits
pub mod Places
pub mod Forms
pub mod Options
